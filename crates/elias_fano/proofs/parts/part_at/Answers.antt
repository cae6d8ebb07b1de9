use Rattle.std.proofs.Common.{ℕ, ◌+◌, ◌-◌, ◌*◌, ◌^◌, ◌<◌, drop, sym, ap, subst, ◌∙◌}
use Rattle.elias_fano.proofs.ValueLemmas.{low-lt}
use Rattle.elias_fano.proofs.PartLemmas.{has_low, has_place, part_is}
use Rattle.elias_fano.proofs.parts.part_at.Goals as goal

pub low_of-low_here-requires-clause-wide : goal.low_of-low_here-requires-clause-wide
low_of-low_here-requires-clause-wide c =
    (has_low c.args.count c.args.last c.args.width c.args.low.now c.args.high.now c.args.i c.requires.parts c.requires.within).wide

pub low_of-low_here-requires-clause-few : goal.low_of-low_here-requires-clause-few
low_of-low_here-requires-clause-few c =
    (has_low c.args.count c.args.last c.args.width c.args.low.now c.args.high.now c.args.i c.requires.parts c.requires.within).few

pub low_of-low_here-requires-clause-within : goal.low_of-low_here-requires-clause-within
low_of-low_here-requires-clause-within c =
    (has_low c.args.count c.args.last c.args.width c.args.low.now c.args.high.now c.args.i c.requires.parts c.requires.within).within

pub unwrap-place-requires : goal.unwrap-place-requires
unwrap-place-requires c =
    rw c.select1.ensures (has_place c.args.count c.args.last c.args.width c.args.low.now c.args.high.now c.args.i c.requires.parts c.requires.within)

pub overflow_sub-result : goal.overflow_sub-result
overflow_sub-result c =
    (part_is c.args.count c.args.last c.args.width c.args.low.now c.args.high.now c.args.i c.unwrap-place.result c.requires.parts c.requires.within
    (sym c.select1.ensures ∙ c.unwrap-place.ensures)).before

pub returns-clause-value : goal.returns-clause-value
returns-clause-value c =
    let w = c.args.width in
    let p = part_is c.args.count c.args.last w c.args.low.now c.args.high.now c.args.i c.unwrap-place.result c.requires.parts c.requires.within
    (sym c.select1.ensures ∙ c.unwrap-place.ensures) in
    ap (λ (x : ℕ). (c.unwrap-place.result - c.args.i) * 2 ^ w + x) c.low_of-low_here.ensures ∙ p.value

pub returns-clause-low : goal.returns-clause-low
returns-clause-low c =
    subst (λ (x : ℕ). x < 2 ^ c.args.width) (sym c.low_of-low_here.ensures) (low-lt c.args.width (drop (c.args.i * c.args.width) c.args.low.now))
