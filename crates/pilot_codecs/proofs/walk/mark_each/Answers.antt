use Rattle.std.proofs.Common.{◌≡◌, ℕ, ◌+◌, ◌*◌, ◌/◌, ◌%◌, ◌^◌, ◌<◌, ◌≤◌, true, false, List, length, get_or, set, refl, sym, ap, ◌∙◌, subst, arith}
use Rattle.std.specs.Prelude.{◌||◌, bit_and}
use Rattle.std.proofs.lemmas.List.{take_all, drop_all}
use Rattle.bit_vector.specs.Bits.{words_number}
use Rattle.elias_fano.specs.Spelling.{is_among}
use Rattle.pilot_codecs.specs.Reading.{are_below}
use Rattle.pilot_codecs.specs.Parts.{values_in}
use Rattle.pilot_codecs.proofs.CompactLemmas.{length-values_in, value_at}
use Rattle.pilot_codecs.proofs.DictLemmas.{are_below-stop, are_below-nil}
use Rattle.pilot_codecs.proofs.WalkLemmas.{some_room, numbers_within, number_among, width_some, width_most, AreMarked, marked_none, marked_next}
use Rattle.pilot_codecs.proofs.walk.mark_each.Goals as goal

pub mask_of-mask-requires : goal.mask_of-mask-requires
mask_of-mask-requires c = width_most c.args.count c.args.width c.args.words.now c.requires

pub nonzero_div-width : goal.nonzero_div-width
nonzero_div-width c = width_some c.args.count c.args.width c.args.words.now c.requires

pub loop-i-init : goal.loop-i-init
loop-i-init c = marked_none c.args.marks.now (values_in c.args.count c.args.width c.args.words.now)

pub bits_at-bits-requires-clause-within : goal.bits_at-bits-requires-clause-within
bits_at-bits-requires-clause-within c =
    let count = c.args.count in
    let w = c.args.width in
    let i = c.loop-i.i in
    let many = c.min-many.result in
    let fits : i + many ≤ count = omega (arith, c.min-many.ensures, c.loop-i-test.true) in
    let place : i * c.from.result ≡ i * w = ap (λ (x : ℕ). i * x) c.from.ensures in
    omega (arith, place, numbers_within count w i many fits, c.requires.packed_are.count)

pub loop-i-smaller : goal.loop-i-smaller
loop-i-smaller c =
    let room = some_room c.args.width (width_some c.args.count c.args.width c.args.words.now c.requires)
    (width_most c.args.count c.args.width c.args.words.now c.requires) in
    omega (arith, room, c.from-room.ensures, c.min-many.ensures, c.loop-i-test.true)

pub returns-then-number-marks-clause-value : goal.returns-then-number-marks-clause-value
returns-then-number-marks-clause-value c =
    let count = c.args.count in
    let w = c.args.width in
    let ws = c.args.words.now in
    let vs = values_in count w ws in
    let i = c.loop-i.i in
    let j = c.loop-j.j in
    let many = c.min-many.result in
    let lt : i + j < count = omega (arith, c.loop-j-test.true, c.min-many.ensures, c.loop-i-test.true) in
    let place : i * c.from.result ≡ i * w = ap (λ (x : ℕ). i * x) c.from.ensures in
    let bits = c.bits_at-bits.ensures ∙ ap (λ (x : ℕ). words_number ws / 2 ^ x % 2 ^ (many * w)) place in
    let got : bit_and (c.bits_at-bits.result / 2 ^ (j * w)) c.mask_of-mask.result ≡ get_or vs (i + j) 0 = number_among (words_number ws) c.bits_at-bits.result
    c.mask_of-mask.result w i j many c.loop-j-test.true c.mask_of-mask.ensures bits ∙ value_at count w (i + j) ((i + j) * w) ws lt refl in
    sym (are_below-stop (length c.args.marks.now) vs (i + j) (omega (arith, lt, length-values_in count w ws)) (omega (
      arith,
      got,
      c.if-number-marks.true,
      c.loop-j.invariant.len,
    ))) ∙ c.loop-j.invariant.below

pub loop-j-preserved : goal.loop-j-preserved
loop-j-preserved c =
    let count = c.args.count in
    let w = c.args.width in
    let ws = c.args.words.now in
    let vs = values_in count w ws in
    let i = c.loop-i.i in
    let j = c.loop-j.j in
    let many = c.min-many.result in
    let lt : i + j < count = omega (arith, c.loop-j-test.true, c.min-many.ensures, c.loop-i-test.true) in
    let place : i * c.from.result ≡ i * w = ap (λ (x : ℕ). i * x) c.from.ensures in
    let bits = c.bits_at-bits.ensures ∙ ap (λ (x : ℕ). words_number ws / 2 ^ x % 2 ^ (many * w)) place in
    let number = bit_and (c.bits_at-bits.result / 2 ^ (j * w)) c.mask_of-mask.result in
    let got : number ≡ get_or vs (i + j) 0 = number_among (words_number ws) c.bits_at-bits.result c.mask_of-mask.result w i j many c.loop-j-test.true
    c.mask_of-mask.ensures bits ∙ value_at count w (i + j) ((i + j) * w) ws lt refl in
    let next : i + j + 1 ≡ i + (j + 1) = omega arith in
    subst (λ (k : ℕ). AreMarked c.args.marks.now (set c.loop-j.marks number true) vs k) next
    (marked_next c.args.marks.now c.loop-j.marks vs (i + j) number (omega (arith, lt, length-values_in count w ws)) got c.if-number-marks.false
    c.loop-j.invariant)

pub returns-clause-value : goal.returns-clause-value
returns-clause-value c =
    let size = length c.args.marks.now in
    let vs = values_in c.args.count c.args.width c.args.words.now in
    let past = drop_all c.loop-i.i vs (omega (arith, length-values_in c.args.count c.args.width c.args.words.now, c.loop-i-test.false)) in
    sym (are_below-nil size) ∙ ap (λ (xs : List ℕ). are_below size xs) (sym past) ∙ c.loop-i.invariant.below

pub returns-clause-marks : goal.returns-clause-marks
returns-clause-marks c = λ _ d lt.
    let vs = values_in c.args.count c.args.width c.args.words.now in
    let all = take_all c.loop-i.i vs (omega (arith, length-values_in c.args.count c.args.width c.args.words.now, c.loop-i-test.false)) in
    c.loop-i.invariant.each d lt ∙ ap (λ (xs : List ℕ). get_or c.args.marks.now d false || is_among d xs) all
