use Rattle.std.proofs.Common.{append_assoc, rules}
use Rattle.pth_top.specs.Texts.{good_keys}
use Rattle.pth_top.proofs.check.good_text.Goals as goal

pub returns : goal.returns
unfolding good_keys
returns c = search (rules, append_assoc)
