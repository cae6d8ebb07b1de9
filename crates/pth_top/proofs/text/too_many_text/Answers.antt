use Rattle.std.proofs.Common.{append_assoc, rules}
use Rattle.pth_top.specs.Texts.{too_many}
use Rattle.pth_top.proofs.text.too_many_text.Goals as goal

pub returns : goal.returns
unfolding too_many
returns c = search (rules, append_assoc)
