use Rattle.std.proofs.Common.{◌≡◌, ℕ, ◌+◌, ◌-◌, ◌*◌, ◌^◌, ◌<◌, List, [], get_or, refl, sym, ap, ◌∙◌, arith}
use Rattle.std.proofs.lemmas.Bool.{eqb-true, eq-eqb}
use Rattle.std.proofs.lemmas.Nat.{one_shl, pow_pos}
use Rattle.std.proofs.lemmas.List.{nil_from_length}
use Rattle.bit_vector.proofs.CallerLemmas.{low_mask}
use Rattle.elias_fano.specs.Spelling.{last_of}
use Rattle.elias_fano.specs.Values.{values_of}
use Rattle.elias_fano.proofs.WidthLemmas.{low_width-le}
use Rattle.elias_fano.proofs.ValueLemmas.{last_of-is, last_of-nil, parts-of, parts-join}
use Rattle.elias_fano.proofs.TextLemmas.{values-length}
use Rattle.elias_fano.proofs.parts.do_end.Goals as goal

pub returns-then-count-eq0 : goal.returns-then-count-eq0
returns-then-count-eq0 c =
    let vs = values_of c.args.width c.args.low.now c.args.high.now in
    let n = values-length c.args.count c.args.last c.args.width c.args.low.now c.args.high.now c.requires.parts in
    let none : vs ≡ [] = nil_from_length vs (n ∙ c.if-count-eq0.true) in
    (λ _. ap (λ (xs : List ℕ). last_of 0 xs) none ∙ last_of-nil 0 ∙ sym (c.requires.none c.if-count-eq0.true), λ _. refl)

pub overflow_shr-last : goal.overflow_shr-last
overflow_shr-last c = omega (arith, c.requires.parts.wide, low_width-le c.args.count c.args.last)

pub overflow_shl-result : goal.overflow_shl-result
overflow_shl-result c = omega (arith, c.requires.parts.wide, low_width-le c.args.count c.args.last)

pub overflow_sub-result : goal.overflow_sub-result
overflow_sub-result c =
    let narrow : c.args.width < 64 = omega (arith, c.requires.parts.wide, low_width-le c.args.count c.args.last) in
    omega (arith, one_shl c.args.width 64 narrow, pow_pos c.args.width)

pub returns-then-here-last : goal.returns-then-here-last
returns-then-here-last c =
    let w = c.args.width in
    let last = c.args.last in
    let vs = values_of w c.args.low.now c.args.high.now in
    let narrow : w < 64 = omega (arith, c.requires.parts.wide, low_width-le c.args.count last) in
    let n = values-length c.args.count last w c.args.low.now c.args.high.now c.requires.parts in
    let end : last_of 0 vs ≡ c.part_at-here.result.0 * 2 ^ w + c.part_at-here.result.1 =
    last_of-is 0 vs (omega (arith, n, c.if-count-eq0.false)) ∙ ap (λ (i : ℕ). get_or vs (i - 1) 0) n ∙ sym c.part_at-here.ensures.value in (
      λ t. end ∙ parts-join c.part_at-here.result.0 c.part_at-here.result.1 w last c.if-here-last.true (eqb-true _ _ t ∙ low_mask last w narrow),
      λ e. eq-eqb _ _ ((parts-of c.part_at-here.result.0 c.part_at-here.result.1 w last c.part_at-here.ensures.low (sym end ∙ e)).1
          ∙ sym (low_mask last w narrow)),
    )

pub returns-else-here-last : goal.returns-else-here-last
returns-else-here-last c =
    let w = c.args.width in
    let last = c.args.last in
    let vs = values_of w c.args.low.now c.args.high.now in
    let n = values-length c.args.count last w c.args.low.now c.args.high.now c.requires.parts in
    let end : last_of 0 vs ≡ c.part_at-here.result.0 * 2 ^ w + c.part_at-here.result.1 =
    last_of-is 0 vs (omega (arith, n, c.if-count-eq0.false)) ∙ ap (λ (i : ℕ). get_or vs (i - 1) 0) n ∙ sym c.part_at-here.ensures.value in (
      λ t. absurd (c.if-here-last.false (eqb-true _ _ t)),
      λ e. eq-eqb _ _ (parts-of c.part_at-here.result.0 c.part_at-here.result.1 w last c.part_at-here.ensures.low (sym end ∙ e)).0,
    )
