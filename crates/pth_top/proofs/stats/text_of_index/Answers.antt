use Rattle.std.proofs.Common.{append_assoc, rules}
use Rattle.pth_top.specs.Stats.{stats_text}
use Rattle.pth_top.proofs.stats.text_of_index.Goals as goal

pub returns : goal.returns
unfolding stats_text
returns c = search (rules, append_assoc)
