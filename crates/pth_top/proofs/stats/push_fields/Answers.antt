use Rattle.std.proofs.Common.{append_assoc, rules}
use Rattle.pth_top.specs.Stats.{field_lines}
use Rattle.pth_top.proofs.stats.push_fields.Goals as goal

pub returns : goal.returns
unfolding field_lines
returns c = search (rules, append_assoc)
