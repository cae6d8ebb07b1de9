use Rattle.std.proofs.Common.{append_assoc}
use Rattle.pth_top.specs.Texts.{fewer}
use Rattle.pth_top.proofs.marks.fewer_text.Goals as goal

pub returns : goal.returns
unfolding fewer
returns c =
    rw (c.in_ok-push_str.ensures.bytes, c.in_ok-push_number-2.ensures, c.in_ok-push_number.ensures, c.new-text.ensures.bytes)
    (simp append_assoc)
