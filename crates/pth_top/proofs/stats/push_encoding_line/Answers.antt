use Rattle.std.proofs.Common.{append_assoc, rules}
use Rattle.pth_top.specs.Stats.{encoding_line}
use Rattle.pth_top.proofs.stats.push_encoding_line.Goals as goal

pub returns : goal.returns
unfolding encoding_line
returns c = search (rules, append_assoc)
