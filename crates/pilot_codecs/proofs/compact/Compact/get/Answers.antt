use Rattle.std.proofs.Common.{◌≡◌, ℕ, ◌*◌, ◌/◌, ◌%◌, ◌^◌, List, get_or, length, Some, sym, ap, ◌∙◌, arith}
use Rattle.std.specs.List.{slice_get}
use Rattle.bit_vector.specs.Bits.{words_number}
use Rattle.elias_fano.proofs.CallerLemmas.{slice_get-none, slice_get-is}
use Rattle.pilot_codecs.specs.Spelling.{greatest}
use Rattle.pilot_codecs.specs.Parts.{values_in}
use Rattle.pilot_codecs.proofs.FieldLemmas.{digits_of-le}
use Rattle.pilot_codecs.proofs.CompactLemmas.{length-values_in, value_at, value_within}
use Rattle.pilot_codecs.proofs.compact.Compact.get.Goals as goal

pub returns-then-i-self : goal.returns-then-i-self
returns-then-i-self c =
    let e = c.self.inside in
    sym (slice_get-none c.args.self.now c.args.i (omega (arith, length-values_in e.count e.width e.words.items, ap length c.self.view_is, c.if-i-self.true)))

pub bits_at-requires-clause-wide : goal.bits_at-requires-clause-wide
bits_at-requires-clause-wide c = let e = c.self.inside in
    omega (arith, c.self.invariant.wide, digits_of-le (greatest (values_in e.count e.width e.words.items)))

pub bits_at-requires-clause-within : goal.bits_at-requires-clause-within
bits_at-requires-clause-within c =
    let e = c.self.inside in
    let place : c.args.i * c.from.result ≡ c.args.i * e.width = ap (λ (x : ℕ). c.args.i * x) c.from.ensures in
    omega (
      arith,
      ap length c.deref.ensures.value,
      value_within e.count e.width c.args.i (c.args.i * c.from.result) e.words.items c.self.invariant c.if-i-self.false place,
    )

pub returns : goal.returns
returns c =
    let e = c.self.inside in
    let vs = values_in e.count e.width e.words.items in
    let place : c.args.i * c.from.result ≡ c.args.i * e.width = ap (λ (x : ℕ). c.args.i * x) c.from.ensures in
    let got : c.bits_at.result ≡ get_or vs c.args.i 0 = c.bits_at.ensures
    ∙ ap (λ (ws : List ℕ). words_number ws / 2 ^ (c.args.i * c.from.result) % 2 ^ e.width) c.deref.ensures.value
    ∙ value_at e.count e.width c.args.i (c.args.i * c.from.result) e.words.items c.if-i-self.false place in
    ap Some got ∙ sym (slice_get-is vs c.args.i 0 (omega (arith, length-values_in e.count e.width e.words.items, c.if-i-self.false)))
    ∙ ap (λ (xs : List ℕ). slice_get xs c.args.i) c.self.view_is
