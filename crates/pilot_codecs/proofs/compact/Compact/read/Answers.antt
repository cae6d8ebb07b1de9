use Rattle.std.proofs.Common.{◌≡◌, ℕ, List, length, drop, Ok, Err, ap, ◌∙◌, subst}
use Rattle.std.proofs.lemmas.Result.{err_from_is_err_and}
use Rattle.pilot_codecs.specs.Reading.{compact_at}
use Rattle.pilot_codecs.specs.Parts.{values_in, IsCompact}
use Rattle.pilot_codecs.proofs.ShortLaws.{lacks_is}
use Rattle.pilot_codecs.proofs.compact.Compact.read.Goals as goal

pub returns-in_err-width-clause-values : goal.returns-in_err-width-clause-values
returns-in_err-width-clause-values c =
    let p = err_from_is_err_and c.from_residual.result c.from_residual.ensures.1 in
    rw (p.1, p.2) c.in_err-width.ensures.values

pub invariant_of-result : goal.invariant_of-result
invariant_of-result c =
    let ws = c.read_values.new.words.items in
    subst (λ (xs : List ℕ). IsCompact c.args.count c.in_ok-width.width (drop (length xs) ws)) c.new-words.ensures.items c.in_ok-width.ensures.compact

pub returns-clause-values : goal.returns-clause-values
returns-clause-values c =
    let ws = c.read_values.new.words.items in
    subst (λ (xs : List ℕ). compact_at c.args.at c.args.count c.args.bytes.now ≡ Ok (
      values_in c.args.count c.in_ok-width.width (drop (length xs) ws),
      c.in_ok-width.rest.now,
    )) c.new-words.ensures.items c.in_ok-width.ensures.values

pub returns-in_err-width-clause-memory : goal.returns-in_err-width-clause-memory
returns-in_err-width-clause-memory c = λ lacks short.
    let p = err_from_is_err_and c.from_residual.result c.from_residual.ensures.1 in
    c.in_err-width.ensures.memory (ap Err (lacks_is c.in_err-width.field-0.0 c.from_residual.result (p.1 ∙ ap Err p.2) lacks)) short
