use Rattle.std.proofs.Common.{append_assoc, rules}
use Rattle.pth_top.specs.Texts.{too_long}
use Rattle.pth_top.proofs.text.too_long_text.Goals as goal

pub returns : goal.returns
unfolding too_long
returns c = search (rules, append_assoc)
