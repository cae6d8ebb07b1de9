use Rattle.std.proofs.Common.{◌≡◌, ℕ, List, length, ap, sym, ◌∙◌, arith}
use Rattle.elias_fano.specs.Values.{values_of, below_len}
use Rattle.elias_fano.proofs.ValueLemmas.{below_len-all, below_len-most}
use Rattle.elias_fano.proofs.TextLemmas.{values-length}
use Rattle.elias_fano.proofs.list.EliasFano.below.Goals.{then-self-eq0-via-then-self-eq0, then-self-eq0-via-else-self-eq0+then-self-bound}
use Rattle.elias_fano.proofs.list.EliasFano.below.Goals as goal

pub returns-then-self-eq0 : goal.returns-then-self-eq0
returns-then-self-eq0 c =
    let e = c.self.inside in
    let vs = values_of e.width e.low e.high in
    let n = values-length e.count e.last e.width e.low e.high c.self.invariant.parts in
    let same : below_len c.args.bound vs ≡ below_len c.args.bound c.args.self.now = ap (λ (xs : List ℕ). below_len c.args.bound xs) c.self.view_is in
    elim c.then-self-eq0.branch [
      | then-self-eq0-via-then-self-eq0 b ↦ omega (arith, n, below_len-most c.args.bound vs, b.if-self-eq0.true) ∙ same
      | then-self-eq0-via-else-self-eq0+then-self-bound b ↦
          sym n ∙ below_len-all c.args.bound vs c.self.invariant.rising (omega (arith, c.self.invariant.last_is, b.if-self-bound.true)) ∙ same
    ]

pub below_by_halves-requires-clause-all : goal.below_by_halves-requires-clause-all
below_by_halves-requires-clause-all c =
    let e = c.self.inside in
    sym (values-length e.count e.last e.width e.low e.high c.self.invariant.parts) ∙ ap length c.self.view_is
