use Rattle.std.proofs.Common.{Err, refl, ap, ◌∙◌, inl, inr}
use Rattle.pilot_codecs.proofs.DictForms.{dict_at-number, dict_at-size, dict_at-entries}
use Rattle.std.proofs.lemmas.Result.{err_from_is_err_and}
use Rattle.elias_fano.proofs.CallerLemmas.{tells}
use Rattle.pilot_codecs.proofs.ShortLaws.{tells_fault}
use Rattle.pilot_codecs.proofs.dict.Dict.read.Goals.{then-size-count-via-then-size-count, then-size-count-via-else-size-count+then-count-ne0}
use Rattle.pilot_codecs.proofs.dict.Dict.read.Goals as goal

pub returns-in_err-size-clause-values : goal.returns-in_err-size-clause-values
returns-in_err-size-clause-values c =
    let p = err_from_is_err_and c.from_residual.result c.from_residual.ensures.1 in
    rw (p.1, p.2) (dict_at-number c.in_err-size.field-0.0 c.args.at c.args.count c.args.bytes.now c.in_err-size.ensures.value)

pub returns-then-size-count-clause-values : goal.returns-then-size-count-clause-values
returns-then-size-count-clause-values c =
    dict_at-size c.args.at c.args.count c.in_ok-size.size c.args.bytes.now c.in_ok-size.rest.now c.in_ok-size.ensures.value
    (elim c.then-size-count.branch [
      | then-size-count-via-then-size-count w ↦ inl w.if-size-count.true
      | then-size-count-via-else-size-count+then-count-ne0 w ↦ inr w.if-count-ne0.true
    ])

pub returns-clause-values : goal.returns-clause-values
returns-clause-values c =
    rw (dict_at-entries c.args.at c.args.count c.in_ok-size.size c.args.bytes.now c.in_ok-size.rest.now c.in_ok-size.ensures.value c.if-size-count.false
    c.if-count-ne0.either) c.entries_of.ensures.values

pub returns-in_err-size-clause-short : goal.returns-in_err-size-clause-short
returns-in_err-size-clause-short c =
    let p = err_from_is_err_and c.from_residual.result c.from_residual.ensures.1 in
    tells c.args.at c.in_err-size.field-0.0 _ _ (p.1 ∙ ap Err p.2)
    (dict_at-number c.in_err-size.field-0.0 c.args.at c.args.count c.args.bytes.now c.in_err-size.ensures.value)
    (λ lacks. absurd (c.in_err-size.ensures.memory (ap Err lacks)))

pub returns-then-size-count-clause-short : goal.returns-then-size-count-clause-short
returns-then-size-count-clause-short c =
    tells_fault c.args.at _ _ _ refl (dict_at-size c.args.at c.args.count c.in_ok-size.size c.args.bytes.now c.in_ok-size.rest.now c.in_ok-size.ensures.value
    (elim c.then-size-count.branch [
      | then-size-count-via-then-size-count w ↦ inl w.if-size-count.true
      | then-size-count-via-else-size-count+then-count-ne0 w ↦ inr w.if-count-ne0.true
    ]))

pub returns-clause-short : goal.returns-clause-short
returns-clause-short c =
    rw (dict_at-entries c.args.at c.args.count c.in_ok-size.size c.args.bytes.now c.in_ok-size.rest.now c.in_ok-size.ensures.value c.if-size-count.false
    c.if-count-ne0.either) c.entries_of.ensures.short
