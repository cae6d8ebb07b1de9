use Rattle.std.proofs.Common.{append_assoc, rules}
use Rattle.pth_top.specs.Stats.{map_line}
use Rattle.pth_top.proofs.stats.push_map_line.Goals as goal

pub returns : goal.returns
unfolding map_line
returns c = search (rules, append_assoc)
