use Rattle.std.proofs.Common.{◌≡◌, ℕ, ◌+◌, ◌<◌, ◌≤◌, sym, ap, ◌∙◌, subst, arith, ⊎_elim}
use Rattle.std.specs.Prelude.{slice_index, slice_set}
use Rattle.std.proofs.lemmas.Bool.{cases_lt}
use Rattle.std.proofs.lemmas.List.{get_or-set_same, get_or-set_other}
use Rattle.pilot_search.specs.Rounds.{HasNoLower}
use Rattle.pilot_search.proofs.shares.test_run.Goals as goal

pub loop-i-preserved : goal.loop-i-preserved
loop-i-preserved c = λ k below within.
    let plan = c.args.plan.now in
    let table = c.args.occupied.now in
    let i : ℕ = c.loop-i.i in
    let first : ℕ = c.first_fitting.result in
    ⊎_elim
    (λ (lower : k < i).
    subst (HasNoLower plan table (c.args.start + k)) (sym (get_or-set_other c.loop-i.firsts i k first 0 (omega arith))) (c.loop-i.invariant k lower within))
    (λ (last : i ≤ k).
    let here : k ≡ i = omega arith in
    let rank : c.args.start + i ≡ c.args.start + k = omega arith in
    let value : slice_index (slice_set c.loop-i.firsts i first) k ≡ first = ap (slice_index (slice_set c.loop-i.firsts i first)) here
    ∙ get_or-set_same c.loop-i.firsts i first 0 (omega arith) in
    subst (HasNoLower plan table (c.args.start + k)) (sym value)
    (subst (λ r. HasNoLower plan table r first) rank (c.first_fitting.ensures (omega arith))))
    (cases_lt k i)
