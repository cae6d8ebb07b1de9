use Rattle.std.proofs.Common.{◌≡◌, ℕ, ◌+◌, ◌<◌, ◌^◌, List, Bool, ◌++◌, take, get_or, ap, ◌∙◌, subst, arith}
use Rattle.std.proofs.lemmas.List.{take_all}
use Rattle.std.proofs.lemmas.Nat.{mod_below, pow_pos}
use Rattle.bit_vector.specs.Bits.{bits_of, bits_of_each, packed}
use Rattle.bit_vector.proofs.FieldLemmas.{IsPacking, packing_none, packing_within, packing_across, packed_whole_words, packed_last_word, bits_of_each-more}
use Rattle.bit_vector.proofs.FieldLemmas.{no_bits}
use Rattle.bit_vector.proofs.words.push_fields.Goals.{then-used-width-lt64, else-used-width-lt64+in_ok-push}
use Rattle.bit_vector.proofs.words.push_fields.Goals as goal

pub loop-value-init : goal.loop-value-init
loop-value-init c = subst (λ (bs : List Bool). IsPacking c.args.words.now.items c.args.words.now.items 0 0 bs) (no_bits c.args.width)
    (packing_none c.args.words.now.items)

pub loop-value-preserved : goal.loop-value-preserved
loop-value-preserved c =
    let before = c.args.words.now.items in
    let l = c.loop-value in
    let w = c.args.width in
    let vs = c.args.values.now in
    let v = c.low_bits-bits.result in
    let so_far = bits_of_each w (take l.value-index vs) in
    let more : so_far ++ bits_of w v ≡ bits_of_each w (take (l.value-index + 1) vs) = ap (λ (m : ℕ). so_far ++ bits_of w m) c.low_bits-bits.ensures
    ∙ bits_of_each-more w vs l.value-index c.loop-value-test.true in
    let fits : v < 2 ^ w = omega (arith, c.low_bits-bits.ensures, mod_below (get_or vs l.value-index 0) (2 ^ w) (pow_pos w)) in
    elim c.if-used-width-lt64.branch [
      | then-used-width-lt64 b ↦
          rw (b.words-is, b.rest-is, b.used-is) (packing_within before l.words.items l.rest l.used w v so_far _ l.invariant fits b.if-used-width-lt64.true more)
      | else-used-width-lt64+in_ok-push b ↦
          rw (b.words-is, b.rest-is, b.used-is)
          (packing_across before l.words.items _ l.rest l.used w v _ _ so_far _ l.invariant fits
          (omega arith) b.if-used-width-lt64.false c.requires more b.in_ok-push.ensures.items (omega arith) b.top_bits-rest.ensures)
    ]

pub returns-in_ok-push-2-clause-ok : goal.returns-in_ok-push-2-clause-ok
returns-in_ok-push-2-clause-ok c =
    let all = take_all c.loop-value.value-index c.args.values.now c.loop-value-test.false in
    packed_last_word c.args.words.now.items c.loop-value.words.items _ c.loop-value.rest c.loop-value.used _ c.loop-value.invariant c.if-used-gt0.true
    c.in_ok-push-2.ensures.items
    ∙ ap (λ (xs : List ℕ). c.args.words.now.items ++ packed (bits_of_each c.args.width xs)) all

pub returns-else-used-gt0-clause-ok : goal.returns-else-used-gt0-clause-ok
returns-else-used-gt0-clause-ok c =
    let before = c.args.words.now.items in
    let l = c.loop-value in
    let all = take_all l.value-index c.args.values.now c.loop-value-test.false in
    let none : l.used ≡ 0 = omega (arith, c.if-used-gt0.false) in
    packed_whole_words before l.words.items l.rest _
    (subst (λ (u : ℕ). IsPacking before l.words.items l.rest u (bits_of_each c.args.width (take l.value-index c.args.values.now))) none l.invariant)
    ∙ ap (λ (xs : List ℕ). before ++ packed (bits_of_each c.args.width xs)) all
