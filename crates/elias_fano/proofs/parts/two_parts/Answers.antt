use Rattle.std.proofs.Common.{◌≡◌, ℕ, ◌+◌, ◌-◌, ◌*◌, ◌^◌, ◌<◌, Bool, List, take, drop, Some, sym, ap, subst, ◌∙◌, arith}
use Rattle.std.specs.Prelude.{IsSome}
use Rattle.std.specs.List.{slice_get}
use Rattle.bit_vector.specs.Bits.{ones, places}
use Rattle.elias_fano.specs.Values.{AreParts}
use Rattle.elias_fano.proofs.ValueLemmas.{low-lt}
use Rattle.elias_fano.proofs.PartLemmas.{IsPart, has_low, has_place, part_is, high-most}
use Rattle.elias_fano.proofs.parts.two_parts.Goals as goal

-- the part of the next value
next_is : (count last w : ℕ) (low high : List Bool) (i place : ℕ) (r : Rattle.std.proofs.Common.Option ℕ) (next : ℕ) →
    AreParts count last w low high →
    i + 1 < count → IsPart count last w low high i place → r ≡ slice_get (places high) (ones (take (place + 1) high)) → r ≡ Some next →
    IsPart count last w low high (i + 1) next
next_is count last w low high i place r next parts lt p e f =
    part_is count last w low high (i + 1) next parts lt (ap (λ (k : ℕ). slice_get (places high) k) (sym p.step) ∙ sym e ∙ f)

pub unwrap-place-requires : goal.unwrap-place-requires
unwrap-place-requires c =
    rw c.select1.ensures (has_place c.args.count c.args.last c.args.width c.args.low.now c.args.high.now c.args.i c.requires.parts
    (omega (arith, c.requires.within)))

pub overflow_add-place : goal.overflow_add-place
overflow_add-place c =
    let most = high-most c.args.count c.args.last c.args.width c.args.low.now c.args.high.now c.requires.parts
    (omega (arith, c.requires.within)) c.ranges.last.fits in
    let p = part_is c.args.count c.args.last c.args.width c.args.low.now c.args.high.now c.args.i c.unwrap-place.result c.requires.parts
    (omega (arith, c.requires.within)) (sym c.select1.ensures ∙ c.unwrap-place.ensures) in
    omega (arith, most, p.here)

pub next1-requires : goal.next1-requires
next1-requires c =
    let p = part_is c.args.count c.args.last c.args.width c.args.low.now c.args.high.now c.args.i c.unwrap-place.result c.requires.parts
    (omega (arith, c.requires.within)) (sym c.select1.ensures ∙ c.unwrap-place.ensures) in
    omega (arith, p.here)

pub unwrap-next-requires : goal.unwrap-next-requires
unwrap-next-requires c =
    let p = part_is c.args.count c.args.last c.args.width c.args.low.now c.args.high.now c.args.i c.unwrap-place.result c.requires.parts
    (omega (arith, c.requires.within)) (sym c.select1.ensures ∙ c.unwrap-place.ensures) in
    let there = has_place c.args.count c.args.last c.args.width c.args.low.now c.args.high.now (c.args.i + 1) c.requires.parts c.requires.within in
    rw c.next1.ensures (subst (λ (k : ℕ). IsSome (slice_get (places c.args.high.now) k)) (sym p.step) there)

pub lows_of-low_here-requires-clause-wide : goal.lows_of-low_here-requires-clause-wide
lows_of-low_here-requires-clause-wide c =
    (has_low c.args.count c.args.last c.args.width c.args.low.now c.args.high.now (c.args.i + 1) c.requires.parts c.requires.within).wide

pub lows_of-low_here-requires-clause-few : goal.lows_of-low_here-requires-clause-few
lows_of-low_here-requires-clause-few c =
    omega (arith, (has_low c.args.count c.args.last c.args.width c.args.low.now c.args.high.now (c.args.i + 1) c.requires.parts c.requires.within).few)

pub lows_of-low_here-requires-clause-within : goal.lows_of-low_here-requires-clause-within
lows_of-low_here-requires-clause-within c =
    (has_low c.args.count c.args.last c.args.width c.args.low.now c.args.high.now (c.args.i + 1) c.requires.parts c.requires.within).within

pub overflow_sub-result : goal.overflow_sub-result
overflow_sub-result c =
    let p = part_is c.args.count c.args.last c.args.width c.args.low.now c.args.high.now c.args.i c.unwrap-place.result c.requires.parts
    (omega (arith, c.requires.within)) (sym c.select1.ensures ∙ c.unwrap-place.ensures) in
    p.before

pub overflow_sub-result-2 : goal.overflow_sub-result-2
overflow_sub-result-2 c =
    let p = part_is c.args.count c.args.last c.args.width c.args.low.now c.args.high.now c.args.i c.unwrap-place.result c.requires.parts
    (omega (arith, c.requires.within)) (sym c.select1.ensures ∙ c.unwrap-place.ensures) in
    let q = next_is c.args.count c.args.last c.args.width c.args.low.now c.args.high.now c.args.i c.unwrap-place.result c.next1.result c.unwrap-next.result
    c.requires.parts c.requires.within p c.next1.ensures c.unwrap-next.ensures in
    q.before

pub returns-clause-value : goal.returns-clause-value
returns-clause-value c =
    let p = part_is c.args.count c.args.last c.args.width c.args.low.now c.args.high.now c.args.i c.unwrap-place.result c.requires.parts
    (omega (arith, c.requires.within)) (sym c.select1.ensures ∙ c.unwrap-place.ensures) in
    ap (λ (x : ℕ). (c.unwrap-place.result - c.args.i) * 2 ^ c.args.width + x) c.lows_of-low_here.ensures.here ∙ p.value

pub returns-clause-low : goal.returns-clause-low
returns-clause-low c =
    subst (λ (x : ℕ). x < 2 ^ c.args.width) (sym c.lows_of-low_here.ensures.here) (low-lt c.args.width (drop (c.args.i * c.args.width) c.args.low.now))

pub returns-clause-next : goal.returns-clause-next
returns-clause-next c =
    let p = part_is c.args.count c.args.last c.args.width c.args.low.now c.args.high.now c.args.i c.unwrap-place.result c.requires.parts
    (omega (arith, c.requires.within)) (sym c.select1.ensures ∙ c.unwrap-place.ensures) in
    let q = next_is c.args.count c.args.last c.args.width c.args.low.now c.args.high.now c.args.i c.unwrap-place.result c.next1.result c.unwrap-next.result
    c.requires.parts c.requires.within p c.next1.ensures c.unwrap-next.ensures in
    ap (λ (x : ℕ). (c.unwrap-next.result - (c.args.i + 1)) * 2 ^ c.args.width + x) c.lows_of-low_here.ensures.next ∙ q.value

pub returns-clause-next_low : goal.returns-clause-next_low
returns-clause-next_low c =
    subst (λ (x : ℕ). x < 2 ^ c.args.width) (sym c.lows_of-low_here.ensures.next) (low-lt c.args.width (drop ((c.args.i + 1) * c.args.width) c.args.low.now))
