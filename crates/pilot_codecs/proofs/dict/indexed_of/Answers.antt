use Rattle.std.proofs.Common.{◌≡◌, ℕ, ◌+◌, ◌*◌, length, Ok, Err, sym, ap, ◌∙◌, subst, arith}
use Rattle.elias_fano.specs.Reading.{Fails}
use Rattle.pilot_codecs.specs.Reading.{compact_at}
use Rattle.pilot_codecs.proofs.DictForms.{indexed_at-places, indexed_at-used, indexed_at-ok}
use Rattle.std.proofs.lemmas.Result.{err_from_is_err_and}
use Rattle.elias_fano.proofs.CallerLemmas.{not_both}
use Rattle.pilot_codecs.proofs.ShortLaws.{lacks_is, indexed_short}
use Rattle.pilot_codecs.proofs.dict.indexed_of.Goals as goal

pub returns-in_err-places-clause-values : goal.returns-in_err-places-clause-values
returns-in_err-places-clause-values c =
    let ds = c.args.entries.items in
    let size : c.len-size.result ≡ length ds = omega (arith, c.len-size.ensures, c.args.entries.ok.0) in
    let p = err_from_is_err_and c.from_residual.result c.from_residual.ensures.1 in
    let e = c.in_err-places.field-0.0 in
    rw (p.1, p.2) (indexed_at-places e c.args.at c.args.count ds c.args.bytes.now
    (subst (λ (k : ℕ). Fails e (compact_at (c.args.at + 8 + 8 * k) c.args.count c.args.bytes.now)) size c.in_err-places.ensures.values))

pub returns-in_err-dict-clause-values : goal.returns-in_err-dict-clause-values
returns-in_err-dict-clause-values c =
    let ds = c.args.entries.items in
    let size : c.len-size.result ≡ length ds = omega (arith, c.len-size.ensures, c.args.entries.ok.0) in
    let places : compact_at (c.args.at + 8 + 8 * length ds) c.args.count c.args.bytes.now ≡ Ok (c.in_ok-places.places, c.in_ok-places.rest.now) =
    ap (λ (k : ℕ). compact_at (c.args.at + 8 + 8 * k) c.args.count c.args.bytes.now) (sym size) ∙ c.in_ok-places.ensures.values in
    let p = err_from_is_err_and c.from_residual-in_err-dict.result c.from_residual-in_err-dict.ensures.1 in
    rw (p.1, p.2) (indexed_at-used c.in_err-dict.field-0.0 c.args.at c.args.count ds c.args.bytes.now c.in_ok-places.places c.in_ok-places.rest.now places
    c.in_err-dict.ensures)

pub returns-clause-values : goal.returns-clause-values
returns-clause-values c =
    let ds = c.args.entries.items in
    let size : c.len-size.result ≡ length ds = omega (arith, c.len-size.ensures, c.args.entries.ok.0) in
    let places : compact_at (c.args.at + 8 + 8 * length ds) c.args.count c.args.bytes.now ≡ Ok (c.in_ok-places.places, c.in_ok-places.rest.now) =
    ap (λ (k : ℕ). compact_at (c.args.at + 8 + 8 * k) c.args.count c.args.bytes.now) (sym size) ∙ c.in_ok-places.ensures.values in
    indexed_at-ok c.args.at c.args.count ds c.args.bytes.now c.in_ok-places.places c.in_ok-places.rest.now c.in_ok-dict.dict places c.in_ok-dict.ensures

pub returns-in_err-places-clause-memory : goal.returns-in_err-places-clause-memory
returns-in_err-places-clause-memory c = λ lacks short.
    let ds = c.args.entries.items in
    let size : c.len-size.result ≡ length ds = omega (arith, c.len-size.ensures, c.args.entries.ok.0) in
    let p = err_from_is_err_and c.from_residual.result c.from_residual.ensures.1 in
    c.in_err-places.ensures.memory (ap Err (lacks_is c.in_err-places.field-0.0 c.from_residual.result (p.1 ∙ ap Err p.2) lacks)) (
      short.0,
      ap (λ (k : ℕ). compact_at (c.args.at + 8 + 8 * k) c.args.count c.args.bytes.now) size
          ∙ indexed_short c.args.at c.args.count short.0 ds c.args.bytes.now short.1,
    )

pub returns-in_err-dict-clause-memory : goal.returns-in_err-dict-clause-memory
returns-in_err-dict-clause-memory c = λ lacks short.
    let ds = c.args.entries.items in
    let size : c.len-size.result ≡ length ds = omega (arith, c.len-size.ensures, c.args.entries.ok.0) in
    let places : compact_at (c.args.at + 8 + 8 * length ds) c.args.count c.args.bytes.now ≡ Ok (c.in_ok-places.places, c.in_ok-places.rest.now) =
    ap (λ (k : ℕ). compact_at (c.args.at + 8 + 8 * k) c.args.count c.args.bytes.now) (sym size) ∙ c.in_ok-places.ensures.values in
    not_both (sym places ∙ indexed_short c.args.at c.args.count short.0 ds c.args.bytes.now short.1)
