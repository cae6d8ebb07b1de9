-- A dictionary spelling that is read is spelled so, and what is spelled is read again, whatever follows.
use Rattle.std.proofs.Common.{◌≡◌, ℕ, ◌+◌, ◌*◌, ◌-◌, ◌^◌, ◌<◌, ◌≤◌, cond, eqb, ltb, List, ◌++◌, length, get_or, take}
use Rattle.std.proofs.Common.{drop, map, Ok, Err, sym, ap, ◌∙◌, subst}
use Rattle.std.proofs.Common.{append_assoc, inl, inr, arith}
use Rattle.std.specs.Prelude.{not, ◌&&◌, ◌||◌, ◌⊎◌}
use Rattle.std.specs.List.{flat_map}
use Rattle.std.proofs.lemmas.Bool.{cases_lt, ltb-false, not-false}
use Rattle.std.proofs.lemmas.List.{take_rest, drop_at, length-append, length-map, get_or-map, get_or_past}
use Rattle.elias_fano.specs.Spelling.{number}
use Rattle.elias_fano.specs.Reading.{◌>>=◌, fault, number_at, words_in}
use Rattle.elias_fano.proofs.CallerLemmas.{IsBytes, IsBytes-drop, words_in-fit, length-words_in}
use Rattle.elias_fano.proofs.CallerLemmas.{bind_ok, guard_ok, ok_is, Takes, number_takes, number_again, words_written, words_again, length-numbers}
use Rattle.pilot_codecs.specs.Spelling.{greatest, distinct, index_in, compact_text, dict_text}
use Rattle.pilot_codecs.specs.Reading.{compact_at, rise_len, are_below, are_used, looked_up, used_at, indexed_at, entries_at, dict_at}
use Rattle.pilot_codecs.specs.Parts.{IsDict}
use Rattle.pilot_codecs.proofs.FieldLemmas.{get_or-le-greatest}
use Rattle.pilot_codecs.proofs.CompactLaws.{compact_takes, compact_again}
use Rattle.pilot_codecs.proofs.DictLemmas.{rise_len-le, are_below-at}
use Rattle.pilot_codecs.proofs.DictMembers.{greatest_within, index_of_among, among_at}
use Rattle.pilot_codecs.proofs.DictLaws.{among_distinct, few_distinct, some_distinct, dict_made, dict_text-looked_up}
use Rattle.pilot_codecs.proofs.DictForms.{used_at-ok, indexed_at-ok, entries_at-rest, dict_at-entries}

-- what a reading took
pub record IsDictText (bytes : List ℕ) (count : ℕ) (vs rest : List ℕ) : Type 0 where
  pub taken : Takes bytes (dict_text vs) rest
  pub count_is : length vs ≡ count
  pub small : greatest vs < 2 ^ 64

-- values from 64-bit entries have 64 bits
looked_small : (ds places : List ℕ) → ((i : ℕ) → get_or ds i 0 < 2 ^ 64) → greatest (looked_up ds places) < 2 ^ 64
looked_small ds places fits =
    let most = greatest_within (2 ^ 64 - 1) (looked_up ds places) (λ i lt.
    omega (arith, get_or-map (λ p. get_or ds p 0) places i 0 0 (omega (arith, lt, length-map places (λ p. get_or ds p 0))), fits (get_or places i 0))) in
    omega (arith, most)

-- entries and indexes that are read stood there as the spelling of their values
entries_take : (at count size : ℕ) (bytes vs rest : List ℕ) → IsBytes bytes → entries_at at count size bytes ≡ Ok (vs, rest) →
    (number size ++ bytes ≡ dict_text vs ++ rest) × IsBytes rest × (length vs ≡ count) × (greatest vs < 2 ^ 64)
unfolding entries_at indexed_at used_at
entries_take at count size bytes vs rest fits e =
    let ds = words_in size bytes in
    let after = drop (8 * size) bytes in
    let g = guard_ok (ltb (length bytes) (8 * size)) (fault (at + 8) 1)
    (cond (ltb (rise_len ds) size) (Err (fault (at + 8 + 8 * rise_len ds) 4)) (indexed_at at count ds after)) (vs, rest) e in
    let h = guard_ok (ltb (rise_len ds) size) (fault (at + 8 + 8 * rise_len ds) 4) (indexed_at at count ds after) (vs, rest) g.1 in
    let a = bind_ok (compact_at (at + 8 + 8 * length ds) count after) (λ places. used_at at ds places.0 >>= λ values. Ok (values, places.1)) (vs, rest) h.1 in
    let b = bind_ok (used_at at ds a.0.0) (λ values. Ok (values, a.0.1)) (vs, rest) a.2 in
    let k = guard_ok (not (are_below (length ds) a.0.0)) (fault (at + 8 + 8 * length ds + 8) 5)
    (cond (not (are_used (length ds) a.0.0)) (Err (fault at 5)) (Ok (looked_up ds a.0.0))) b.0 b.1 in
    let m = guard_ok (not (are_used (length ds) a.0.0)) (fault at 5) (Ok (looked_up ds a.0.0)) b.0 k.1 in
    let long : 8 * size ≤ length bytes = ltb-false _ _ g.0 in
    let n : length ds ≡ size = length-words_in size bytes in
    let dict : IsDict ds a.0.0 = record {
      rising = omega (arith, rise_len-le ds, ltb-false (rise_len ds) size h.0, n);
      below = not-false _ k.0;
      used = not-false _ m.0;
    } in
    let t = compact_takes (at + 8 + 8 * length ds) count after a.0.0 a.0.1 (IsBytes-drop (8 * size) bytes fits) a.1 in
    let got = looked_up ds a.0.0 in
    let text : number size ++ bytes ≡ dict_text got ++ a.0.1 =
    ap (λ (x : List ℕ). number size ++ x) (sym (words_written size bytes fits long) ∙ ap (λ (x : List ℕ). flat_map number ds ++ x) t.taken.parts)
    ∙ ap (λ (j : ℕ). number j ++ (flat_map number ds ++ (compact_text a.0.0 ++ a.0.1))) (sym n)
    ∙ sym (append_assoc (number (length ds) ++ flat_map number ds) (compact_text a.0.0) a.0.1
    ∙ append_assoc (number (length ds)) (flat_map number ds) (compact_text a.0.0 ++ a.0.1))
    ∙ ap (λ (x : List ℕ). x ++ a.0.1) (sym (dict_text-looked_up ds a.0.0 dict)) in
    let made : (number size ++ bytes ≡ dict_text got ++ a.0.1) × IsBytes a.0.1 × (length got ≡ count) × (greatest got < 2 ^ 64) =
    (text, t.taken.rest_fits, length-map a.0.0 (λ p. get_or ds p 0) ∙ t.count_is, looked_small ds a.0.0 (words_in-fit size bytes fits)) in
    let same : got ≡ b.0 = ok_is got b.0 m.1 in
    let both = ok_is {A = List ℕ × List ℕ} (b.0, a.0.1) (vs, rest) b.2 in
    subst (λ (p : List ℕ × List ℕ). (number size ++ bytes ≡ dict_text p.0 ++ p.1) × IsBytes p.1 × (length p.0 ≡ count)
    × (greatest p.0 < 2 ^ 64)) both
    (subst (λ (x : List ℕ). (number size ++ bytes ≡ dict_text x ++ a.0.1) × IsBytes a.0.1 × (length x ≡ count) × (greatest x < 2 ^ 64)) same made)

-- a list that is read stood there as its spelling
pub dict_takes : (at count : ℕ) (bytes vs rest : List ℕ) → IsBytes bytes → dict_at at count bytes ≡ Ok (vs, rest) → IsDictText bytes count vs rest
unfolding dict_at
dict_takes at count bytes vs rest fits e =
    let a = bind_ok (number_at at bytes) (λ size. cond (ltb count size.0 || (eqb size.0 0 && not (eqb count 0))) (Err (fault at 5))
    (entries_at at count size.0 size.1)) (vs, rest) e in
    let g = guard_ok (ltb count a.0.0 || (eqb a.0.0 0 && not (eqb count 0))) (fault at 5) (entries_at at count a.0.0 a.0.1) (vs, rest) a.2 in
    let t = number_takes at bytes a.0.0 a.0.1 fits a.1 in
    let p = entries_take at count a.0.0 a.0.1 vs rest t.0.rest_fits g.1 in
    record { taken = record { parts = t.0.parts ∙ p.0; rest_fits = p.1 }; count_is = p.2; small = p.3 }

-- the spelling of a list is read as that list
pub dict_again : (at : ℕ) (vs rest : List ℕ) → greatest vs < 2 ^ 64 → length vs ≤ 2 ^ 30 →
    dict_at at (length vs) (dict_text vs ++ rest) ≡ Ok (vs, rest)
unfolding dict_text
dict_again at vs rest small few =
    let ds = distinct vs in
    let places = map (index_in ds) vs in
    let size = length ds in
    let m = dict_made vs in
    let back = compact_text places ++ rest in
    let after = flat_map number ds ++ back in
    let text : (number size ++ flat_map number ds ++ compact_text places) ++ rest ≡ number size ++ after =
    append_assoc (number size ++ flat_map number ds) (compact_text places) rest ∙ append_assoc (number size) (flat_map number ds) back in
    let fits : (i : ℕ) → get_or ds i 0 < 2 ^ 64 = λ i. elim (cases_lt i size) [
      | inl lt ↦ let p = index_of_among (get_or ds i 0) vs (sym (among_distinct (get_or ds i 0) vs) ∙ among_at ds i lt) in
          omega (arith, p.2, get_or-le-greatest vs p.0)
      | inr le ↦ omega (arith, get_or_past ds i 0 le)
    ] in
    let numbers = length-numbers ds in
    let room : 8 * size ≤ length after = omega (arith, numbers, length-append (flat_map number ds) back) in
    let behind : take (length after - 8 * size) (drop (8 * size) after) ≡ back = take_rest after (8 * size)
    ∙ drop_at (flat_map number ds) back (8 * size) numbers in
    let low : greatest places ≤ size = greatest_within size places (λ i lt. omega (arith, are_below-at size places i m.dict.below lt)) in
    let count : length places ≡ length vs = length-map vs (index_in ds) in
    let read : compact_at (at + 8 + 8 * size) (length vs) back ≡ Ok (places, rest) = ap (λ (k : ℕ). compact_at (at + 8 + 8 * size) k back) (sym count)
    ∙ compact_again (at + 8 + 8 * size) places rest (omega (arith, low, few_distinct vs, few)) in
    let either : ((size ≡ 0) × (length vs ≡ 0)) ⊎ (size ≡ 0 → ⊥) = elim (cases_lt 0 (length vs)) [
      | inl lt ↦ inr (λ e. omega (arith, e, some_distinct vs lt))
      | inr le ↦ inl (omega (arith, few_distinct vs, le), omega (arith, le))
    ] in
    ap (λ (t : List ℕ). dict_at at (length vs) t) text
    ∙ dict_at-entries at (length vs) size (number size ++ after) after (number_again at size after (omega (arith, few_distinct vs, few)))
    (few_distinct vs) either
    ∙ entries_at-rest at (length vs) size after ds room (sym (words_again ds back fits)) (omega (arith, m.dict.rising))
    ∙ ap (λ (t : List ℕ). indexed_at at (length vs) ds t) behind
    ∙ indexed_at-ok at (length vs) ds back places rest vs read (used_at-ok at ds places m.dict.below m.dict.used ∙ ap (λ (x : List ℕ). Ok x) m.same)
