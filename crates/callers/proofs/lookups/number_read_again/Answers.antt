use Rattle.std.proofs.Common.{◌≡◌, ℕ, List, length, drop, sym, ap, subst, ◌∙◌}
use Rattle.std.specs.Prelude.{IfOk}
use Rattle.index_text.specs.Text.{IsIndex}
use Rattle.index_file.specs.Encoded.{marked}
use Rattle.index_file.proofs.CallerLemmas.{value_of-marked}
use Rattle.callers.proofs.lookups.number_read_again.Goals as goal

pub returns-clause-value : goal.returns-clause-value
returns-clause-value c =
    let x = c.args.index.now.index in
    let mark = c.args.mark in
    let enc = c.args.index.now.enc in
    let out = c.write_marked.new.out.items in
    let bytes : drop (length c.new-bytes.result.items) out ≡ c.deref.result.now =
    ap (λ (xs : List ℕ). drop (length xs) out) c.new-bytes.ensures.items ∙ sym c.deref.ensures.value in
    let is = subst (λ (t : List ℕ). IsIndex t (marked x mark) enc) bytes c.in_ok-write_marked.ensures.index in
    subst (λ v. IfOk c.number_of_key.result (λ number. number ≡ v)) (value_of-marked x mark c.args.key.now)
    (c.number_of_key.ensures.value (marked x mark) enc is)
