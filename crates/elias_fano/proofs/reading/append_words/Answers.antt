use Rattle.std.proofs.Common.{ℕ, ◌++◌, List, sym, ap, ◌∙◌}
use Rattle.std.proofs.lemmas.List.{append-nil}
use Rattle.elias_fano.specs.Reading.{words_in}
use Rattle.elias_fano.proofs.FormLemmas.{words_in-none}
use Rattle.elias_fano.proofs.reading.append_words.Goals as goal

pub returns-then-count-eq0-clause-ok : goal.returns-then-count-eq0-clause-ok
returns-then-count-eq0-clause-ok c =
    let old = c.args.words.now.items in
    let bytes = c.args.bytes.now in
    sym (append-nil old) ∙ ap (λ (ws : List ℕ). old ++ ws) (words_in-none bytes)
    ∙ ap (λ (k : ℕ). old ++ words_in k bytes) (sym c.if-count-eq0.true)
