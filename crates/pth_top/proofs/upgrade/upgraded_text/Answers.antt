use Rattle.std.proofs.Common.{append_assoc, rules}
use Rattle.pth_top.specs.Texts.{upgraded}
use Rattle.pth_top.proofs.upgrade.upgraded_text.Goals as goal

pub returns : goal.returns
unfolding upgraded
returns c = search (rules, append_assoc)
