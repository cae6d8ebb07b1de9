use Rattle.std.proofs.Common.{append_assoc, rules}
use Rattle.pth_top.specs.Texts.{seed_lines}
use Rattle.pth_top.proofs.text.push_seed.Goals as goal

pub returns : goal.returns
unfolding seed_lines
returns c = search (rules, append_assoc)
