use Rattle.std.proofs.Common.{ℕ, List, length, sym, ap, ◌∙◌, subst}
use Rattle.elias_fano.specs.Spelling.{IsRising}
use Rattle.elias_fano.proofs.TextLemmas.{values-length, values-rising}
use Rattle.elias_fano.proofs.list.EliasFano.len.Goals as goal

pub returns-clause-value : goal.returns-clause-value
returns-clause-value c =
    let e = c.self.inside in
    sym (values-length e.count e.last e.width e.low e.high c.self.invariant.parts) ∙ ap length c.self.view_is

pub returns-clause-rising : goal.returns-clause-rising
returns-clause-rising c =
    let e = c.self.inside in
    subst (λ (vs : List ℕ). IsRising vs) c.self.view_is (values-rising e.count e.last e.width e.low e.high c.self.invariant)
