use Rattle.std.proofs.Common.{append_assoc, rules}
use Rattle.pth_top.specs.Texts.{part_lines}
use Rattle.pth_top.proofs.text.push_partition.Goals as goal

pub returns : goal.returns
unfolding part_lines
returns c = search (rules, append_assoc)
