use Rattle.std.proofs.Common.{append_assoc, rules}
use Rattle.pth_top.specs.Stats.{sum_lines}
use Rattle.pth_top.proofs.stats.push_sums.Goals as goal

pub returns : goal.returns
unfolding sum_lines
returns c = search (rules, append_assoc)
