use Rattle.std.proofs.Common.{append_assoc, rules}
use Rattle.pth_top.specs.Texts.{repeats}
use Rattle.pth_top.proofs.marks.repeats_text.Goals as goal

pub returns : goal.returns
unfolding repeats
returns c = search (rules, append_assoc)
