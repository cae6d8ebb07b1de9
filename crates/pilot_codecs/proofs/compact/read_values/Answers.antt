use Rattle.std.proofs.Common.{Err, inl, inr, sym, ap, ◌∙◌, arith}
use Rattle.std.proofs.lemmas.Result.{err_from_is_err_and}
use Rattle.pilot_codecs.proofs.CompactLemmas.{compact_at-number, compact_at-width, compact_at-packed}
use Rattle.pilot_codecs.proofs.ShortLaws.{lacks_is}
use Rattle.pilot_codecs.proofs.compact.read_values.Goals as goal

pub returns-in_err-width-clause-values : goal.returns-in_err-width-clause-values
returns-in_err-width-clause-values c =
    let p = err_from_is_err_and c.from_residual.result c.from_residual.ensures.1 in
    rw (p.1, p.2) (compact_at-number c.in_err-width.field-0.0 c.args.at c.args.count c.args.bytes.now c.in_err-width.ensures.value)

pub returns-then-width-eq0-clause-values : goal.returns-then-width-eq0-clause-values
returns-then-width-eq0-clause-values c =
    compact_at-width c.args.at c.args.count c.in_ok-width.width c.args.bytes.now c.in_ok-width.rest.now c.in_ok-width.ensures.value
    (λ p. elim c.then-width-eq0.either [ inl none ↦ absurd (omega (arith, p.0, none)) | inr q ↦ absurd (omega (arith, p.1, q.1)) ])

pub returns-in_err-after-clause-values : goal.returns-in_err-after-clause-values
returns-in_err-after-clause-values c =
    let p = err_from_is_err_and c.from_residual-in_err-after.result c.from_residual-in_err-after.ensures.1 in
    let packed = compact_at-packed c.args.at c.args.count c.in_ok-width.width c.args.bytes.now c.in_ok-width.rest.now c.in_ok-width.ensures.value
    c.if-width-eq0.false c.if-width-gt64.false in
    rw (p.1, p.2, packed) c.in_err-after.ensures.values

pub returns-clause-values : goal.returns-clause-values
returns-clause-values c =
    compact_at-packed c.args.at c.args.count c.in_ok-width.width c.args.bytes.now c.in_ok-width.rest.now c.in_ok-width.ensures.value c.if-width-eq0.false
    c.if-width-gt64.false ∙ c.in_ok-after.ensures.values

pub returns-in_err-width-clause-memory : goal.returns-in_err-width-clause-memory
returns-in_err-width-clause-memory c = λ lacks short.
    let p = err_from_is_err_and c.from_residual.result c.from_residual.ensures.1 in
    c.in_err-width.ensures.memory (ap Err (lacks_is c.in_err-width.field-0.0 c.from_residual.result (p.1 ∙ ap Err p.2) lacks))

pub returns-in_err-after-clause-memory : goal.returns-in_err-after-clause-memory
returns-in_err-after-clause-memory c = λ lacks short.
    let p = err_from_is_err_and c.from_residual-in_err-after.result c.from_residual-in_err-after.ensures.1 in
    let packed = compact_at-packed c.args.at c.args.count c.in_ok-width.width c.args.bytes.now c.in_ok-width.rest.now c.in_ok-width.ensures.value
    c.if-width-eq0.false c.if-width-gt64.false in
    c.in_err-after.ensures.memory
    (ap Err (lacks_is c.in_err-after.field-0.0 c.from_residual-in_err-after.result (p.1 ∙ ap Err p.2) lacks)) (short.0, sym packed ∙ short.1)
