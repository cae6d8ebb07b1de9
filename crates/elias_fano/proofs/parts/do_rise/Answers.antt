use Rattle.std.proofs.Common.{ℕ, ◌+◌, ◌-◌, ◌*◌, ◌^◌, List, refl, sym, ap, subst, ◌∙◌, arith}
use Rattle.std.specs.Prelude.{IsSome}
use Rattle.std.specs.List.{slice_get}
use Rattle.std.proofs.lemmas.List.{drop_all}
use Rattle.bit_vector.specs.Bits.{places}
use Rattle.elias_fano.specs.Spelling.{rises}
use Rattle.elias_fano.specs.Values.{values_of}
use Rattle.elias_fano.proofs.ValueLemmas.{rises-nil, rises-drop_yes, rises-drop_no, parts-lt, parts-le}
use Rattle.elias_fano.proofs.PartLemmas.{has_low, has_place, part_is, value_is, high-most}
use Rattle.elias_fano.proofs.TextLemmas.{values-length}
use Rattle.elias_fano.proofs.parts.do_rise.Goals as goal

pub unwrap-place-requires : goal.unwrap-place-requires
unwrap-place-requires c =
    let there = has_place c.args.count c.args.last c.args.width c.args.low.now c.args.high.now c.loop-i.i c.requires c.loop-i-test.true in
    rw c.next1.ensures (subst (λ (k : ℕ). IsSome (slice_get (places c.args.high.now) k)) (sym c.loop-i.invariant.passed) there)

pub low_of-low_here-requires-clause-wide : goal.low_of-low_here-requires-clause-wide
low_of-low_here-requires-clause-wide c =
    (has_low c.args.count c.args.last c.args.width c.args.low.now c.args.high.now c.loop-i.i c.requires c.loop-i-test.true).wide

pub low_of-low_here-requires-clause-few : goal.low_of-low_here-requires-clause-few
low_of-low_here-requires-clause-few c =
    (has_low c.args.count c.args.last c.args.width c.args.low.now c.args.high.now c.loop-i.i c.requires c.loop-i-test.true).few

pub low_of-low_here-requires-clause-within : goal.low_of-low_here-requires-clause-within
low_of-low_here-requires-clause-within c =
    (has_low c.args.count c.args.last c.args.width c.args.low.now c.args.high.now c.loop-i.i c.requires c.loop-i-test.true).within

pub overflow_sub-here : goal.overflow_sub-here
overflow_sub-here c =
    (part_is c.args.count c.args.last c.args.width c.args.low.now c.args.high.now c.loop-i.i c.unwrap-place.result c.requires c.loop-i-test.true
    (ap (λ (k : ℕ). slice_get (places c.args.high.now) k) (sym c.loop-i.invariant.passed) ∙ sym c.next1.ensures ∙ c.unwrap-place.ensures)).before

pub returns-then-is_below : goal.returns-then-is_below
returns-then-is_below c =
    let w = c.args.width in
    let i = c.loop-i.i in
    let vs = values_of w c.args.low.now c.args.high.now in
    let here : ℕ × ℕ = (c.unwrap-place.result - i, c.low_of-low_here.result) in
    let n = values-length c.args.count c.args.last w c.args.low.now c.args.high.now c.requires in
    let p = part_is c.args.count c.args.last c.args.width c.args.low.now c.args.high.now c.loop-i.i c.unwrap-place.result c.requires c.loop-i-test.true
    (ap (λ (k : ℕ). slice_get (places c.args.high.now) k) (sym c.loop-i.invariant.passed) ∙ sym c.next1.ensures ∙ c.unwrap-place.ensures) in
    let v = value_is c.args.count c.args.last w c.args.low.now c.args.high.now i c.unwrap-place.result here p refl
    c.low_of-low_here.ensures in
    let less = parts-lt here.0 c.loop-i.before here.1 c.loop-i.low_before w v.1 (c.is_below.ensures.0 c.if-is_below.true) in
    let no = rises-drop_no vs i (c.loop-i.before * 2 ^ w + c.loop-i.low_before) (here.0 * 2 ^ w + here.1) (omega (arith, n, c.loop-i-test.true)) v.0 less in
    sym no ∙ c.loop-i.invariant.so_far

pub overflow_add-from : goal.overflow_add-from
overflow_add-from c =
    let most = high-most c.args.count c.args.last c.args.width c.args.low.now c.args.high.now c.requires
    (omega (arith, c.loop-i-test.true)) c.ranges.last.fits in
    let p = part_is c.args.count c.args.last c.args.width c.args.low.now c.args.high.now c.loop-i.i c.unwrap-place.result c.requires c.loop-i-test.true
    (ap (λ (k : ℕ). slice_get (places c.args.high.now) k) (sym c.loop-i.invariant.passed) ∙ sym c.next1.ensures ∙ c.unwrap-place.ensures) in
    omega (arith, most, p.here)

pub loop-i-preserved : goal.loop-i-preserved
loop-i-preserved c =
    let w = c.args.width in
    let i = c.loop-i.i in
    let vs = values_of w c.args.low.now c.args.high.now in
    let here : ℕ × ℕ = (c.unwrap-place.result - i, c.low_of-low_here.result) in
    let n = values-length c.args.count c.args.last w c.args.low.now c.args.high.now c.requires in
    let p = part_is c.args.count c.args.last c.args.width c.args.low.now c.args.high.now c.loop-i.i c.unwrap-place.result c.requires c.loop-i-test.true
    (ap (λ (k : ℕ). slice_get (places c.args.high.now) k) (sym c.loop-i.invariant.passed) ∙ sym c.next1.ensures ∙ c.unwrap-place.ensures) in
    let v = value_is c.args.count c.args.last w c.args.low.now c.args.high.now i c.unwrap-place.result here p refl
    c.low_of-low_here.ensures in
    let more = parts-le here.0 c.loop-i.before here.1 c.loop-i.low_before w c.loop-i.invariant.small
    (λ h. Rattle.std.proofs.lemmas.Bool.both_ways c.is_below.result c.if-is_below.false (c.is_below.ensures.1 h)) in
    let yes = rises-drop_yes vs i (c.loop-i.before * 2 ^ w + c.loop-i.low_before) (here.0 * 2 ^ w + here.1) (omega (arith, n, c.loop-i-test.true)) v.0 more in
    record {
      so_far = sym yes ∙ c.loop-i.invariant.so_far;
      small = v.1;
      from_in = omega (arith, p.here);
      passed = p.step;
    }

pub returns : goal.returns
returns c =
    let w = c.args.width in
    let vs = values_of w c.args.low.now c.args.high.now in
    let n = values-length c.args.count c.args.last w c.args.low.now c.args.high.now c.requires in
    let b = c.loop-i.before * 2 ^ w + c.loop-i.low_before in
    sym (rises-nil b) ∙ ap (λ (xs : List ℕ). rises b xs) (sym (drop_all c.loop-i.i vs (omega (arith, n, c.loop-i-test.false))))
    ∙ c.loop-i.invariant.so_far
