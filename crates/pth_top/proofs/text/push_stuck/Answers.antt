use Rattle.std.proofs.Common.{append_assoc}
use Rattle.pth_top.specs.Texts.{stuck_line}
use Rattle.pth_top.proofs.text.push_stuck.Goals as goal

pub returns : goal.returns
unfolding stuck_line
returns c =
    rw (c.in_ok-push_str.ensures.bytes, c.in_ok-push_number-3.ensures, c.in_ok-push_number-2.ensures, c.in_ok-push_number.ensures)
    (simp append_assoc)
