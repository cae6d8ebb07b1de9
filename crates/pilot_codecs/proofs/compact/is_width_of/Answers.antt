use Rattle.std.proofs.Common.{◌≡◌, ℕ, ◌*◌, ◌-◌, ◌/◌, ◌^◌, ◌<◌, length, get_or, refl, sym}
use Rattle.std.proofs.Common.{subst, ◌∙◌, inl, inr, arith}
use Rattle.std.proofs.lemmas.Bool.{false≢true, cases_lt}
use Rattle.std.proofs.lemmas.Nat.{mul-le}
use Rattle.bit_vector.specs.Bits.{bits_of, words_number}
use Rattle.pilot_codecs.specs.Spelling.{greatest}
use Rattle.pilot_codecs.specs.Parts.{values_in}
use Rattle.pilot_codecs.proofs.CompactLemmas.{length-values_in, value_at, place_fits}
use Rattle.pilot_codecs.proofs.CompactLaws.{greatest-fields}
use Rattle.pilot_codecs.proofs.TopLemmas.{one_digit, top_bit, top_set, top_clear, top_reached, top_missed}
use Rattle.pilot_codecs.proofs.compact.is_width_of.Goals as goal

pub returns-then-width-eq1 : goal.returns-then-width-eq1
returns-then-width-eq1 c =
    let w = c.args.width in
    let vs = values_in c.args.count w c.args.words.now in
    let fits : greatest vs < 2 ^ 1 =
    subst (λ (k : ℕ). greatest vs < 2 ^ k) c.if-width-eq1.true
    (greatest-fields c.args.count w (bits_of (c.args.count * w) (words_number c.args.words.now))) in
    (λ _. one_digit (greatest vs) fits ∙ sym c.if-width-eq1.true, λ _. refl)

pub loop-init : goal.loop-init
loop-init c = record {
  place = omega arith;
  below = λ k lt. absurd (omega (arith, lt));
}

pub bits_at-requires-clause-within : goal.bits_at-requires-clause-within
bits_at-requires-clause-within c =
    omega (arith, c.loop.invariant.place, c.requires.some, c.requires.room, place_fits c.loop.counter c.args.width c.args.count c.loop-test.true)

pub returns-then-bits_at-eq1 : goal.returns-then-bits_at-eq1
returns-then-bits_at-eq1 c =
    let count = c.args.count in
    let w = c.args.width in
    let ws = c.args.words.now in
    let vs = values_in count w ws in
    let i = c.loop.counter in
    let v = get_or vs i 0 in
    let bit : c.bits_at.result ≡ v / 2 ^ (w - 1) = c.bits_at.ensures
    ∙ top_bit (words_number ws) w i c.loop.at v c.requires.some c.loop.invariant.place (value_at count w i (i * w) ws c.loop-test.true refl) in (
      λ _. top_reached vs w (w - 1) i (omega (arith, c.requires.some)) c.requires.wide
          (greatest-fields count w (bits_of (count * w) (words_number ws))) (top_set v (w - 1) c.bits_at.result bit c.if-bits_at-eq1.true),
      λ _. refl,
    )

pub overflow_add-at : goal.overflow_add-at
overflow_add-at c =
    omega (
      arith,
      c.loop.invariant.place,
      c.requires.wide,
      place_fits c.loop.counter c.args.width c.args.count c.loop-test.true,
      mul-le c.args.count c.args.width (2 ^ 30) 64 c.requires.few c.requires.wide,
    )

pub loop-preserved : goal.loop-preserved
loop-preserved c =
    let count = c.args.count in
    let w = c.args.width in
    let ws = c.args.words.now in
    let vs = values_in count w ws in
    let i = c.loop.counter in
    let v = get_or vs i 0 in
    let bit : c.bits_at.result ≡ v / 2 ^ (w - 1) = c.bits_at.ensures
    ∙ top_bit (words_number ws) w i c.loop.at v c.requires.some c.loop.invariant.place (value_at count w i (i * w) ws c.loop-test.true refl) in
    record {
      place = omega (arith, c.loop.invariant.place);
      below = λ k lt.
          elim (cases_lt k i) [
            | inl less ↦ c.loop.invariant.below k less
            | inr ge ↦
                let same : k ≡ i = omega (arith, lt, ge) in
                subst (λ (j : ℕ). get_or vs j 0 < 2 ^ (w - 1)) (sym same)
                (top_clear v (w - 1) c.bits_at.result bit (omega (arith, c.bits_at.ensures)) c.if-bits_at-eq1.false)
          ];
    }

pub returns : goal.returns
returns c =
    let w = c.args.width in
    let vs = values_in c.args.count w c.args.words.now in
    let below : (k : ℕ) → k < length vs → get_or vs k 0 < 2 ^ (w - 1) =
    λ k lt. c.loop.invariant.below k (omega (arith, lt, length-values_in c.args.count w c.args.words.now, c.loop-test.false)) in (
      λ t. absurd (false≢true t),
      λ e. absurd (top_missed vs w (w - 1) (omega (arith, c.requires.some)) (omega (
        arith,
        c.requires.some,
        c.if-width-eq1.false,
      )) below e),
    )
