use Rattle.std.proofs.Common.{Err, refl, ap, ◌∙◌, arith}
use Rattle.pilot_codecs.specs.Spelling.{groups_for}
use Rattle.pilot_codecs.proofs.GroupLaws.{groups_take, parted_at-fails, parted_at-ok}
use Rattle.std.proofs.lemmas.Result.{err_from_is_err_and}
use Rattle.elias_fano.proofs.CallerLemmas.{tells_same, tells_none}
use Rattle.pilot_codecs.proofs.ShortLaws.{parted_short}
use Rattle.pilot_codecs.proofs.parted.Parted.read.Goals as goal

pub returns-in_err-groups-clause-values : goal.returns-in_err-groups-clause-values
returns-in_err-groups-clause-values c =
    let p = err_from_is_err_and c.from_residual.result c.from_residual.ensures.1 in
    rw (p.1, p.2) (parted_at-fails c.in_err-groups.field-0.0 c.args.at c.args.count c.args.bytes.now c.in_err-groups.ensures.values)

pub invariant_of-result : goal.invariant_of-result
invariant_of-result c =
    let t = groups_take (groups_for c.args.count) c.args.at c.args.count c.args.bytes.now c.in_ok-groups.groups c.in_ok-groups.rest.now refl
    (λ i. omega (arith, c.type_inv.bytes i)) c.in_ok-groups.ensures.values in
    record { few = c.requires.few; count_is = t.count_is; cut = t.cut }

pub returns-clause-values : goal.returns-clause-values
returns-clause-values c = parted_at-ok c.args.at c.args.count c.args.bytes.now c.in_ok-groups.groups c.in_ok-groups.rest.now c.in_ok-groups.ensures.values

pub returns-in_err-groups-clause-short : goal.returns-in_err-groups-clause-short
returns-in_err-groups-clause-short c =
    let p = err_from_is_err_and c.from_residual.result c.from_residual.ensures.1 in
    λ place le short. tells_same c.args.at c.in_err-groups.field-0.0 _ _ _ refl (p.1 ∙ ap Err p.2) c.in_err-groups.ensures.short place le
    (parted_short c.args.at c.args.count c.args.bytes.now _ short)

pub returns-clause-short : goal.returns-clause-short
returns-clause-short c =
    tells_none c.args.at _ _ _
    (parted_at-ok c.args.at c.args.count c.args.bytes.now c.in_ok-groups.groups c.in_ok-groups.rest.now c.in_ok-groups.ensures.values)
