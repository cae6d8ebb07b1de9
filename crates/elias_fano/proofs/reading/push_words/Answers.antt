use Rattle.std.proofs.Common.{◌≡◌, ℕ, ◌++◌, List, [], ◌∷◌, sym, ap, ◌∙◌, append_assoc}
use Rattle.std.proofs.lemmas.List.{append-nil}
use Rattle.elias_fano.specs.Reading.{words_in}
use Rattle.elias_fano.proofs.FormLemmas.{words_in-none, words_in-more}
use Rattle.elias_fano.proofs.reading.push_words.Goals as goal

pub loop-i-init : goal.loop-i-init
loop-i-init c =
    let old = c.args.words.now.items in
    c.in_ok-reserve.ensures.items ∙ sym (append-nil old) ∙ ap (λ (ws : List ℕ). old ++ ws) (words_in-none c.args.bytes.now)

pub loop-i-preserved : goal.loop-i-preserved
loop-i-preserved c =
    let old = c.args.words.now.items in
    let bytes = c.args.bytes.now in
    let i = c.loop-i.i in
    let so_far : c.loop-i.words.items ≡ old ++ words_in i bytes = c.loop-i.invariant in
    c.in_ok-push.ensures.items ∙ ap (λ (ws : List ℕ). ws ++ c.number_in.result ∷ []) so_far
    ∙ append_assoc old (words_in i bytes) (c.number_in.result ∷ [])
    ∙ ap (λ (n : ℕ). old ++ (words_in i bytes ++ n ∷ [])) c.number_in.ensures ∙ ap (λ (ws : List ℕ). old ++ ws) (sym (words_in-more i bytes))
