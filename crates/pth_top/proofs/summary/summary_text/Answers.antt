use Rattle.std.proofs.Common.{append_assoc, rules}
use Rattle.pth_top.specs.Texts.{summary}
use Rattle.pth_top.proofs.summary.summary_text.Goals as goal

pub returns : goal.returns
unfolding summary
returns c = search (rules, append_assoc)
