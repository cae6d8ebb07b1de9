use Rattle.std.proofs.Common.{◌≡◌, ℕ, ◌*◌, ◌%◌, ◌^◌, ◌<◌, List, length, get_or, Some, sym, ap, ◌∙◌, arith}
use Rattle.std.specs.List.{slice_get}
use Rattle.elias_fano.specs.Values.{values_of}
use Rattle.elias_fano.proofs.WidthLemmas.{low_width-le}
use Rattle.std.specs.Prelude.{bit_or}
use Rattle.std.proofs.lemmas.Nat.{or_shifted}
use Rattle.std.proofs.Math.Nat.{mod-eq_of_lt}
use Rattle.elias_fano.proofs.ValueLemmas.{slice_get-none, slice_get-is, get_or-le-last}
use Rattle.elias_fano.proofs.TextLemmas.{values-length}
use Rattle.elias_fano.proofs.list.EliasFano.get.Goals as goal

pub returns-then-i-self : goal.returns-then-i-self
returns-then-i-self c =
    let e = c.self.inside in
    let n = values-length e.count e.last e.width e.low e.high c.self.invariant.parts in
    sym (slice_get-none c.args.self.now c.args.i (omega (arith, n, ap length c.self.view_is, c.if-i-self.true)))

pub overflow_shl-result : goal.overflow_shl-result
overflow_shl-result c = omega (arith, c.self.invariant.parts.wide, low_width-le c.self.inside.count c.self.inside.last)

pub returns : goal.returns
returns c =
    let e = c.self.inside in
    let w = e.width in
    let vs = values_of w e.low e.high in
    let h = c.part_at-high.result.0 in
    let l = c.part_at-high.result.1 in
    let n = values-length e.count e.last w e.low e.high c.self.invariant.parts in
    let lt : c.args.i < length vs = omega (arith, n, c.if-i-self.false) in
    let most = get_or-le-last 0 vs c.args.i c.self.invariant.rising lt in
    let fits : h * 2 ^ w < 2 ^ 64 = omega (arith, most, c.self.invariant.last_is, c.self.invariant.fits, c.part_at-high.ensures.value) in
    let joined : bit_or (h * 2 ^ w % 2 ^ 64) l ≡ get_or vs c.args.i 0 = ap (λ (x : ℕ). bit_or x l) (mod-eq_of_lt fits)
    ∙ or_shifted h w l c.part_at-high.ensures.low ∙ c.part_at-high.ensures.value in
    ap Some joined ∙ sym (slice_get-is vs c.args.i 0 lt) ∙ ap (λ (xs : List ℕ). slice_get xs c.args.i) c.self.view_is
