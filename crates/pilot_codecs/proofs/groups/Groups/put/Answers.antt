use Rattle.std.proofs.Common.{◌≡◌, ℕ, ◌<◌, ◌++◌, List, length, map, get_or, take, sym, ap, ◌∙◌, append_assoc, arith}
use Rattle.std.specs.List.{flat_map}
use Rattle.std.proofs.lemmas.List.{get_or_default}
use Rattle.elias_fano.specs.Spelling.{number}
use Rattle.pilot_codecs.specs.declared.groups.Head.{Head}
use Rattle.pilot_codecs.specs.Spelling.{compact_text}
use Rattle.pilot_codecs.specs.Parts.{words_under, group_in}
use Rattle.pilot_codecs.proofs.HeadLemmas.{texts-more}
use Rattle.pilot_codecs.proofs.groups.Groups.put.Goals as goal

pub loop-head-preserved : goal.loop-head-preserved
loop-head-preserved c =
    let old = c.args.out.now.items in
    let words = c.self.inside.words.items in
    let heads = c.self.inside.heads.items in
    let i = c.loop-head.head-index in
    let none : Head = record { count = 0; width = 0; start = 0 } in
    let head = get_or c.deref-head-items.result.now i none in
    let text = number head.width ++ flat_map number c.words_of.result.now in
    let so_far : c.loop-head.out.items ≡ old ++ flat_map compact_text (map (group_in words) (take i heads)) = c.loop-head.invariant in
    let lt : i < length heads = omega (arith, ap length c.deref-head-items.ensures.value, c.loop-head-test.true) in
    let head_is : head ≡ get_or heads i head = ap (λ (hs : List Head). get_or hs i none) c.deref-head-items.ensures.value
    ∙ get_or_default heads i none head lt in
    let read : c.words_of.result.now ≡ words_under words head = c.words_of.ensures ∙ ap (λ (ws : List ℕ). words_under ws head) c.deref.ensures.value in
    let text_is : text ≡ number head.width ++ flat_map number (words_under words head) =
    ap (λ (ws : List ℕ). number head.width ++ flat_map number ws) read in
    c.in_ok-put_values.ensures.ok ∙ ap (λ (t : List ℕ). t ++ text) so_far
    ∙ append_assoc old (flat_map compact_text (map (group_in words) (take i heads))) text
    ∙ ap (λ (t : List ℕ). old ++ t) (sym (texts-more words text heads i head c.self.invariant lt head_is text_is))
