use Rattle.std.proofs.Common.{append_assoc, rules}
use Rattle.pth_top.specs.Texts.{no_value}
use Rattle.pth_top.proofs.marks.no_value_text.Goals as goal

pub returns : goal.returns
unfolding no_value
returns c = search (rules, append_assoc)
