use Rattle.std.proofs.Common.{Err, refl, ap, ◌∙◌, arith}
use Rattle.std.proofs.lemmas.Result.{err_from_is_err_and}
use Rattle.elias_fano.proofs.CallerLemmas.{list_takes, tells_same, tells_none}
use Rattle.pilot_codecs.proofs.SumLemmas.{sums_at-fails, sums_at-ok}
use Rattle.pilot_codecs.proofs.ShortLaws.{sums_short}
use Rattle.pilot_codecs.proofs.sums.Sums.read.Goals as goal

pub returns-in_err-list-clause-values : goal.returns-in_err-list-clause-values
returns-in_err-list-clause-values c =
    let p = err_from_is_err_and c.from_residual.result c.from_residual.ensures.1 in
    rw (p.1, p.2) (sums_at-fails c.in_err-list.field-0.0 c.args.at c.args.count c.args.bytes.now c.in_err-list.ensures.values)

pub returns-clause-values : goal.returns-clause-values
returns-clause-values c = sums_at-ok c.args.at c.args.count c.args.bytes.now c.in_ok-list.list c.in_ok-list.rest.now c.in_ok-list.ensures.values

pub invariant_of-result : goal.invariant_of-result
invariant_of-result c = (list_takes c.args.at c.args.count c.args.bytes.now c.in_ok-list.list c.in_ok-list.rest.now (λ i. omega (arith, c.type_inv.bytes i))
    (omega (arith, c.requires.few)) c.in_ok-list.ensures.values).rising

pub returns-in_err-list-clause-short : goal.returns-in_err-list-clause-short
returns-in_err-list-clause-short c =
    let p = err_from_is_err_and c.from_residual.result c.from_residual.ensures.1 in
    λ place le short. tells_same c.args.at c.in_err-list.field-0.0 _ _ _ refl (p.1 ∙ ap Err p.2) c.in_err-list.ensures.short place le
    (sums_short c.args.at c.args.count c.args.bytes.now _ short)

pub returns-clause-short : goal.returns-clause-short
returns-clause-short c =
    tells_none c.args.at _ _ _ (sums_at-ok c.args.at c.args.count c.args.bytes.now c.in_ok-list.list c.in_ok-list.rest.now c.in_ok-list.ensures.values)
