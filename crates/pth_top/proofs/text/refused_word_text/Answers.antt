use Rattle.std.proofs.Common.{append_assoc}
use Rattle.pth_top.specs.Texts.{refused_word}
use Rattle.pth_top.proofs.text.refused_word_text.Goals as goal

pub returns : goal.returns
unfolding refused_word
returns c =
    rw (
      c.in_ok-push_str-3.ensures.bytes,
      c.in_ok-push_str-2.ensures.bytes,
      c.kind_text.ensures,
      c.in_ok-push_str.ensures.bytes,
      c.in_ok-push_number.ensures,
      c.new-text.ensures.bytes,
    )
    (simp append_assoc)
