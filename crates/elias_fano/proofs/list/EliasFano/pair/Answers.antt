use Rattle.std.proofs.Common.{ℕ, ◌+◌, ◌<◌, List, length, get_or, ap, ◌∙◌, arith}
use Rattle.elias_fano.specs.Values.{values_of}
use Rattle.elias_fano.proofs.WidthLemmas.{low_width-le}
use Rattle.elias_fano.proofs.ValueLemmas.{get_or-le-last, parts-word}
use Rattle.elias_fano.proofs.TextLemmas.{values-length}
use Rattle.elias_fano.proofs.list.EliasFano.pair.Goals as goal

pub two_parts-high-requires-clause-within : goal.two_parts-high-requires-clause-within
two_parts-high-requires-clause-within c =
    let e = c.self.inside in
    omega (arith, values-length e.count e.last e.width e.low e.high c.self.invariant.parts, ap length c.self.view_is, c.requires)

pub overflow_shl-result : goal.overflow_shl-result
overflow_shl-result c = omega (arith, c.self.invariant.parts.wide, low_width-le c.self.inside.count c.self.inside.last)

pub overflow_shl-result-2 : goal.overflow_shl-result-2
overflow_shl-result-2 c = omega (arith, c.self.invariant.parts.wide, low_width-le c.self.inside.count c.self.inside.last)

pub returns-clause-value : goal.returns-clause-value
returns-clause-value c =
    let e = c.self.inside in
    let vs = values_of e.width e.low e.high in
    let here = c.two_parts-high.result.0 in
    let lt : c.args.i < length vs = omega (arith, ap length c.self.view_is, c.requires) in
    let most = get_or-le-last 0 vs c.args.i c.self.invariant.rising lt in
    parts-word here.0 here.1 e.width (get_or vs c.args.i 0) c.two_parts-high.ensures.low c.two_parts-high.ensures.value
    (omega (arith, most, c.self.invariant.last_is, c.self.invariant.fits))
    ∙ ap (λ (xs : List ℕ). get_or xs c.args.i 0) c.self.view_is

pub returns-clause-next : goal.returns-clause-next
returns-clause-next c =
    let e = c.self.inside in
    let vs = values_of e.width e.low e.high in
    let here = c.two_parts-high.result.1 in
    let lt : c.args.i + 1 < length vs = omega (arith, ap length c.self.view_is, c.requires) in
    let most = get_or-le-last 0 vs (c.args.i + 1) c.self.invariant.rising lt in
    parts-word here.0 here.1 e.width (get_or vs (c.args.i + 1) 0) c.two_parts-high.ensures.next_low c.two_parts-high.ensures.next
    (omega (arith, most, c.self.invariant.last_is, c.self.invariant.fits))
    ∙ ap (λ (xs : List ℕ). get_or xs (c.args.i + 1) 0) c.self.view_is
