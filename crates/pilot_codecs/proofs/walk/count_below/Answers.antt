use Rattle.std.proofs.Common.{◌≡◌, ℕ, ◌+◌, ◌*◌, ◌/◌, ◌%◌, ◌^◌, ◌<◌, ◌≤◌, get_or, refl, ap, ◌∙◌, arith}
use Rattle.std.specs.Prelude.{bit_and}
use Rattle.bit_vector.specs.Bits.{words_number}
use Rattle.elias_fano.proofs.CallerLemmas.{below_len-le, below_len-most}
use Rattle.pilot_codecs.specs.Parts.{values_in}
use Rattle.pilot_codecs.proofs.CompactLemmas.{length-values_in, value_at}
use Rattle.pilot_codecs.proofs.BelowLemmas.{below_more}
use Rattle.pilot_codecs.proofs.WalkLemmas.{some_room, numbers_within, number_among}
use Rattle.pilot_codecs.proofs.walk.count_below.Goals as goal

pub bits_at-bits-requires-clause-within : goal.bits_at-bits-requires-clause-within
bits_at-bits-requires-clause-within c =
    let count = c.args.count in
    let w = c.args.width in
    let i = c.loop-i.i in
    let many = c.min-many.result in
    let fits : i + many ≤ count = omega (arith, c.min-many.ensures, c.loop-i-test.true) in
    let place : i * c.from.result ≡ i * w = ap (λ (x : ℕ). i * x) c.from.ensures in
    omega (arith, place, numbers_within count w i many fits, c.requires.room)

pub loop-i-smaller : goal.loop-i-smaller
loop-i-smaller c =
    omega (arith, some_room c.args.width c.requires.some c.requires.wide, c.from-room.ensures, c.min-many.ensures, c.loop-i-test.true)

pub returns-then-number-bound : goal.returns-then-number-bound
returns-then-number-bound c =
    let count = c.args.count in
    let w = c.args.width in
    let ws = c.args.words.now in
    let vs = values_in count w ws in
    let i = c.loop-i.i in
    let j = c.loop-j.j in
    let many = c.min-many.result in
    let lt : i + j < count = omega (arith, c.loop-j-test.true, c.min-many.ensures, c.loop-i-test.true) in
    let place : i * c.from.result ≡ i * w = ap (λ (x : ℕ). i * x) c.from.ensures in
    let bits = c.bits_at-bits.ensures ∙ ap (λ (x : ℕ). words_number ws / 2 ^ x % 2 ^ (many * w)) place in
    let got : bit_and (c.bits_at-bits.result / 2 ^ (j * w)) c.mask_of-mask.result ≡ get_or vs (i + j) 0 = number_among (words_number ws) c.bits_at-bits.result
    c.mask_of-mask.result w i j many c.loop-j-test.true c.mask_of-mask.ensures bits ∙ value_at count w (i + j) ((i + j) * w) ws lt refl in
    omega (arith, c.loop-j.invariant, below_len-le c.args.bound vs (i + j) (omega (arith, got, c.if-number-bound.true)), c.from-then-number-bound.ensures)

pub loop-j-preserved : goal.loop-j-preserved
loop-j-preserved c =
    let count = c.args.count in
    let w = c.args.width in
    let ws = c.args.words.now in
    let vs = values_in count w ws in
    let i = c.loop-i.i in
    let j = c.loop-j.j in
    let many = c.min-many.result in
    let lt : i + j < count = omega (arith, c.loop-j-test.true, c.min-many.ensures, c.loop-i-test.true) in
    let place : i * c.from.result ≡ i * w = ap (λ (x : ℕ). i * x) c.from.ensures in
    let bits = c.bits_at-bits.ensures ∙ ap (λ (x : ℕ). words_number ws / 2 ^ x % 2 ^ (many * w)) place in
    let got : bit_and (c.bits_at-bits.result / 2 ^ (j * w)) c.mask_of-mask.result ≡ get_or vs (i + j) 0 = number_among (words_number ws) c.bits_at-bits.result
    c.mask_of-mask.result w i j many c.loop-j-test.true c.mask_of-mask.ensures bits ∙ value_at count w (i + j) ((i + j) * w) ws lt refl in
    omega (
      arith,
      below_more c.args.bound vs (i + j) c.loop-j.invariant (omega (arith, lt, length-values_in count w ws)) (omega (arith, got, c.if-number-bound.false)),
    )

pub returns : goal.returns
returns c =
    let ws = c.args.words.now in
    let vs = values_in c.args.count c.args.width ws in
    omega (arith, c.loop-i.invariant, c.loop-i-test.false, below_len-most c.args.bound vs, length-values_in c.args.count c.args.width ws)
