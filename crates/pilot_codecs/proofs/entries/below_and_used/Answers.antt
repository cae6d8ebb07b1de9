use Rattle.std.proofs.Common.{◌≡◌, ℕ, ◌<◌, List, Bool, false, length, get_or, refl, sym, ap, ◌∙◌, arith}
use Rattle.std.proofs.Math.Bool.{beq}
use Rattle.std.specs.Prelude.{not, ◌||◌, replicate}
use Rattle.std.specs.List.{list_any}
use Rattle.std.proofs.lemmas.List.{take_at, length-replicate, get_or-replicate}
use Rattle.elias_fano.specs.Spelling.{is_among}
use Rattle.pilot_codecs.specs.Reading.{are_used}
use Rattle.pilot_codecs.proofs.DictLemmas.{same_bool, set_each, each_set, are_used-at, are_used-from}
use Rattle.pilot_codecs.proofs.entries.below_and_used.Goals as goal

pub returns-clause-used : goal.returns-clause-used
returns-clause-used c = λ _.
    let n = c.args.size in
    let ps = c.args.places.now in
    let used = c.deref.result.now in
    let clear : c.as_mut_slice.result.now ≡ replicate n false = c.as_mut_slice.ensures.value ∙ c.in_ok-used.ensures.items_if_clones_equal (λ y same. same) in
    let size : length c.as_mut_slice.result.now ≡ n = ap length clear ∙ length-replicate n false in
    let items : used ≡ c.mark.new.marks = c.deref.ensures.value
    ∙ take_at c.mark.new.marks _ _ (omega (arith, size, c.mark.auto.marks, ap length c.as_mut_slice.ensures.value, c.in_ok-used.used.ok.0)) in
    let len : length used ≡ n = omega (arith, ap length items, c.mark.auto.marks, size) in
    let marks : (d : ℕ) → d < n → get_or used d false ≡ is_among d ps = λ d lt. ap (λ (bs : List Bool). get_or bs d false) items
    ∙ c.if-not-mark.ensures.marks refl d (omega (arith, size, lt))
    ∙ ap (λ (b : Bool). b || is_among d ps) (ap (λ (bs : List Bool). get_or bs d false) clear ∙ get_or-replicate n d false false lt) in
    ap (λ (b : Bool). not b) c.contains.ensures.value
    ∙ same_bool (not (list_any (λ b. beq b false) used)) (are_used n ps)
    (λ t. are_used-from n ps (λ d lt. sym (marks d lt) ∙ set_each used t d (omega (arith, len, lt))))
    (λ t. each_set used (λ d lt. marks d (omega (arith, len, lt)) ∙ are_used-at n ps d t (omega (arith, len, lt))))
