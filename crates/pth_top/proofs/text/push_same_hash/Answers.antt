use Rattle.std.proofs.Common.{append_assoc}
use Rattle.pth_top.specs.Texts.{same_hash_line}
use Rattle.pth_top.proofs.text.push_same_hash.Goals as goal

pub returns : goal.returns
unfolding same_hash_line
returns c =
    rw (c.in_ok-push_str.ensures.bytes, c.in_ok-push_place-2.ensures, c.in_ok-push_place.ensures, c.in_ok-push_number.ensures)
    (simp append_assoc)
