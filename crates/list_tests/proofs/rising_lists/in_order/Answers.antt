use Rattle.std.proofs.Common.{◌≡◌, ℕ, List, get_or, drop, refl, sym, ap, ◌∙◌, arith}
use Rattle.std.proofs.lemmas.List.{drop_all}
use Rattle.elias_fano.specs.Spelling.{rises}
use Rattle.elias_fano.proofs.ValueLemmas.{rises-nil, rises-drop_yes, rises-drop_no}
use Rattle.list_tests.proofs.rising_lists.in_order.Goals as goal

pub returns-then-value-before : goal.returns-then-value-before
returns-then-value-before c =
    let vs = c.args.values.now in
    let i = c.loop-value.value-index in
    let so_far : rises c.loop-value.before (drop i vs) ≡ rises 0 vs = c.loop-value.invariant in
    sym (rises-drop_no vs i c.loop-value.before (get_or vs i 0) (omega (arith, c.loop-value-test.true)) refl c.if-value-before.true) ∙ so_far

pub loop-value-preserved : goal.loop-value-preserved
loop-value-preserved c =
    let vs = c.args.values.now in
    let i = c.loop-value.value-index in
    let so_far : rises c.loop-value.before (drop i vs) ≡ rises 0 vs = c.loop-value.invariant in
    sym (rises-drop_yes vs i c.loop-value.before (get_or vs i 0) (omega (arith, c.loop-value-test.true)) refl c.if-value-before.false) ∙ so_far

pub returns : goal.returns
returns c =
    let vs = c.args.values.now in
    let i = c.loop-value.value-index in
    let so_far : rises c.loop-value.before (drop i vs) ≡ rises 0 vs = c.loop-value.invariant in
    sym (rises-nil c.loop-value.before) ∙ ap (λ (xs : List ℕ). rises c.loop-value.before xs) (sym (drop_all i vs (omega (arith, c.loop-value-test.false))))
    ∙ so_far
