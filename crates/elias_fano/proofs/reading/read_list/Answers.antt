use Rattle.std.proofs.lemmas.Result.{err_from_is_err_and}
use Rattle.elias_fano.proofs.FormLemmas.{list_at-number, list_at-last, list_at-parts}
use Rattle.std.proofs.Common.{Err, sym, ap, ◌∙◌, arith}
use Rattle.elias_fano.proofs.ShortLemmas.{err_is, other_kind, tells}
use Rattle.elias_fano.proofs.reading.read_list.Goals as goal

pub returns-in_err-last-clause-values : goal.returns-in_err-last-clause-values
returns-in_err-last-clause-values c =
    let p = err_from_is_err_and c.from_residual.result c.from_residual.ensures.1 in
    rw (p.1, p.2) (list_at-number c.in_err-last.field-0.0 c.args.at c.args.count c.args.bytes.now c.in_err-last.ensures.value)

pub returns-then-last-ne0-clause-values : goal.returns-then-last-ne0-clause-values
returns-then-last-ne0-clause-values c = rw c.form_fault.ensures
    (list_at-last c.args.at c.args.count c.in_ok-last.last c.args.bytes.now c.in_ok-last.rest.now c.in_ok-last.ensures.value c.if-count-eq0.true
    c.if-last-ne0.true)

pub returns-clause-values : goal.returns-clause-values
returns-clause-values c =
    rw (list_at-parts c.args.at c.args.count c.in_ok-last.last c.args.bytes.now c.in_ok-last.rest.now c.in_ok-last.ensures.value c.else-count-eq0.either)
    c.parts_of.ensures.values

pub returns-in_err-last-clause-short : goal.returns-in_err-last-clause-short
returns-in_err-last-clause-short c =
    let p = err_from_is_err_and c.from_residual.result c.from_residual.ensures.1 in
    tells c.args.at c.in_err-last.field-0.0 _ _ (p.1 ∙ ap Err p.2)
    (list_at-number c.in_err-last.field-0.0 c.args.at c.args.count c.args.bytes.now c.in_err-last.ensures.value)
    (λ lacks. absurd (c.in_err-last.ensures.memory (ap Err lacks)))

pub returns-then-last-ne0-clause-short : goal.returns-then-last-ne0-clause-short
returns-then-last-ne0-clause-short c =
    let read = list_at-last c.args.at c.args.count c.in_ok-last.last c.args.bytes.now c.in_ok-last.rest.now c.in_ok-last.ensures.value c.if-count-eq0.true
    c.if-last-ne0.true in
    λ place le short. absurd (other_kind c.args.at place 6 (λ k. omega (arith, k)) (err_is (sym read ∙ short)))

pub returns-clause-short : goal.returns-clause-short
returns-clause-short c =
    rw (list_at-parts c.args.at c.args.count c.in_ok-last.last c.args.bytes.now c.in_ok-last.rest.now c.in_ok-last.ensures.value c.else-count-eq0.either)
    c.parts_of.ensures.short
