use Rattle.std.proofs.Common.{append_assoc}
use Rattle.pth_top.specs.Texts.{repeated_key}
use Rattle.pth_top.proofs.text.repeated_key_text.Goals as goal

pub returns : goal.returns
unfolding repeated_key
returns c =
    rw (c.in_ok-push_str.ensures.bytes, c.in_ok-push_place-2.ensures, c.in_ok-push_place.ensures, c.new-text.ensures.bytes)
    (simp append_assoc)
