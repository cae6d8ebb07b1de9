-- The dictionary of a list, and a list from a dictionary.
use Rattle.std.proofs.Common.{◌≡◌, ℕ, zero, suc, ◌+◌, ◌<◌, ◌≤◌, Bool, true, false, cond, eqb, ltb, List, [], ◌∷◌, ◌++◌}
use Rattle.std.proofs.Common.{length, get_or, map, Option, Some}
use Rattle.std.proofs.Common.{refl, sym, ap, ◌∙◌, subst, inl, inr, arith}
use Rattle.std.specs.Prelude.{option_map}
use Rattle.std.specs.List.{flat_map, slice_get}
use Rattle.std.proofs.lemmas.Bool.{cases_lt, cases_eq, cases_Bool, or_cases, ltb-true, lt-ltb, eq-eqb, ne_eqb, eqb-true, false≢true}
use Rattle.std.proofs.lemmas.List.{length-map, get_or-map}
use Rattle.elias_fano.specs.Spelling.{number, is_among}
use Rattle.pilot_codecs.specs.Spelling.{greatest, present_from, distinct, index_in, compact_text, dict_text}
use Rattle.pilot_codecs.specs.Reading.{are_below, looked_up}
use Rattle.pilot_codecs.specs.Parts.{IsDict}
use Rattle.pilot_codecs.proofs.FieldLemmas.{get_or-le-greatest}
use Rattle.pilot_codecs.proofs.DictLemmas.{same_bool, are_below-at, are_used-at, are_used-from}
use Rattle.pilot_codecs.proofs.DictMembers.{index_of_among, among_at, among_by, greatest_within, Up, up_from-rise_len, rise_len-up, up_at, not_among}

-- ---- the numbers that are present

-- nothing is among no numbers
none_present : (at n : ℕ) → present_from at n [] ≡ []
unfolding present_from is_among
none_present at zero = refl
none_present at (suc n) = none_present (at + 1) n

-- a number that is passed changes nothing
present_passed : (at n d : ℕ) (ds : List ℕ) → d < at → present_from at n (d ∷ ds) ≡ present_from at n ds
unfolding present_from is_among
present_passed at zero d ds lt = refl
present_passed at (suc n) d ds lt =
    rw (ne_eqb at d (λ e. omega (arith, e))) (ap (λ (rest : List ℕ). cond (is_among at ds) (at ∷ rest) rest)
    (present_passed (at + 1) n d ds (omega arith)))

-- the numbers among a rising list are that list
pub present_rising : (at n : ℕ) (ds : List ℕ) → Up at ds → greatest ds < at + n → present_from at n ds ≡ ds
unfolding present_from is_among greatest
present_rising at zero [] h lt = refl
present_rising at zero (d ∷ ds) h lt = absurd (omega (arith, h.0))
present_rising at (suc n) [] h lt = none_present (at + 1) n
present_rising at (suc n) (d ∷ ds) h lt =
    elim (cases_lt at d) [
      | inl less ↦
          rw (ne_eqb at d (λ e. omega (arith, e)), not_among (suc d) at ds h.1 (omega arith)) (present_rising (at + 1) n (d ∷ ds) (
            omega arith,
            h.1,
          ) (omega (arith, lt)))
      | inr ge ↦
          let here : at ≡ d = omega (arith, h.0) in
          let next : suc d ≡ at + 1 = omega (arith, here) in
          let rest : present_from (at + 1) n (d ∷ ds) ≡ ds = present_passed (at + 1) n d ds (omega arith)
          ∙ present_rising (at + 1) n ds (subst (λ (k : ℕ). Up k ds) next h.1) (omega (arith, lt)) in
          rw (eq-eqb at d here) (ap (λ (x : ℕ). x ∷ present_from (at + 1) n (d ∷ ds)) here ∙ ap (λ (xs : List ℕ). d ∷ xs) rest)
    ]

-- lists with the same members have the same numbers present
present_same : (at n : ℕ) (us vs : List ℕ) → ((x : ℕ) → is_among x us ≡ is_among x vs) → present_from at n us ≡ present_from at n vs
unfolding present_from
present_same at zero us vs h = refl
present_same at (suc n) us vs h =
    ap (λ (b : Bool). cond b (at ∷ present_from (at + 1) n us) (present_from (at + 1) n us)) (h at)
    ∙ ap (λ (rest : List ℕ). cond (is_among at vs) (at ∷ rest) rest) (present_same (at + 1) n us vs h)

-- a rising list with the same members is the dictionary
pub distinct_is : (ds vs : List ℕ) → Up 0 ds → ((x : ℕ) → is_among x ds ≡ is_among x vs) → distinct vs ≡ ds
distinct_is ds vs up same =
    let bound : greatest ds ≤ greatest vs = greatest_within (greatest vs) ds (λ i lt.
    let p = index_of_among (get_or ds i 0) vs (sym (same (get_or ds i 0)) ∙ among_at ds i lt) in
    omega (arith, p.2, get_or-le-greatest vs p.0)) in
    present_same 0 (greatest vs + 1) vs ds (λ x. sym (same x)) ∙ present_rising 0 (greatest vs + 1) ds up (omega (arith, bound))

-- the numbers present rise
up_present : (least at n : ℕ) (vs : List ℕ) → least ≤ at → Up least (present_from at n vs)
unfolding present_from
up_present least at zero vs le = tt
up_present least at (suc n) vs le =
    elim (cases_Bool (is_among at vs)) [
      | inl t ↦ rw t (le, up_present (suc at) (at + 1) n vs (omega arith))
      | inr f ↦ rw f (up_present least (at + 1) n vs (omega arith))
    ]

-- among the numbers present are the members within their range
among_present : (at n x : ℕ) (vs : List ℕ) → at ≤ x → x < at + n → is_among x (present_from at n vs) ≡ is_among x vs
unfolding present_from is_among
among_present at zero x vs low high = absurd (omega arith)
among_present at (suc n) x vs low high =
    elim (cases_eq x at) [
      | inl e ↦
          elim (cases_Bool (is_among at vs)) [
            | inl t ↦ rw (t, eq-eqb x at e) (sym (ap (λ (y : ℕ). is_among y vs) e ∙ t))
            | inr f ↦ rw f (not_among (suc at) x (present_from (at + 1) n vs) (up_present (suc at) (at + 1) n vs (omega arith)) (omega (arith, e))
                ∙ sym (ap (λ (y : ℕ). is_among y vs) e ∙ f))
          ]
      | inr ne ↦
          let rest = among_present (at + 1) n x vs (omega (arith, ne)) (omega arith) in
          elim (cases_Bool (is_among at vs)) [
            | inl t ↦ rw (t, ne_eqb x at ne) rest
            | inr f ↦ rw f rest
          ]
    ]

-- nothing above the greatest is a member
above_none : (vs : List ℕ) (x : ℕ) → greatest vs < x → is_among x vs ≡ false
above_none vs x lt =
    elim (cases_Bool (is_among x vs)) [
      | inl t ↦ let p = index_of_among x vs t in absurd (omega (arith, p.2, get_or-le-greatest vs p.0))
      | inr f ↦ f
    ]

-- nothing above the range is present
above_present : (at n x : ℕ) (vs : List ℕ) → at + n ≤ x → is_among x (present_from at n vs) ≡ false
unfolding present_from is_among
above_present at zero x vs le = refl
above_present at (suc n) x vs le =
    let rest = above_present (at + 1) n x vs (omega arith) in
    elim (cases_Bool (is_among at vs)) [
      | inl t ↦ rw (t, ne_eqb x at (λ e. omega (arith, e))) rest
      | inr f ↦ rw f rest
    ]

-- the distinct values have the same members
pub among_distinct : (x : ℕ) (vs : List ℕ) → is_among x (distinct vs) ≡ is_among x vs
among_distinct x vs =
    elim (cases_lt x (greatest vs + 1)) [
      | inl lt ↦ among_present 0 (greatest vs + 1) x vs (omega arith) (omega (arith, lt))
      | inr le ↦ above_present 0 (greatest vs + 1) x vs (omega (arith, le)) ∙ sym (above_none vs x (omega (arith, le)))
    ]

-- the distinct values rise
pub up_distinct : (vs : List ℕ) → Up 0 (distinct vs)
up_distinct vs = up_present 0 0 (greatest vs + 1) vs (omega arith)

-- one value more adds at most one number
present_more : (at n v : ℕ) (vs : List ℕ) → length (present_from at n (v ∷ vs)) ≤ length (present_from at n vs) + 1
unfolding present_from is_among
present_more at zero v vs = omega arith
present_more at (suc n) v vs =
    elim (cases_eq at v) [
      | inl e ↦
          let rest = ap length (present_passed (at + 1) n v vs (omega (arith, e))) in
          elim (cases_Bool (is_among at vs)) [
            | inl t ↦ rw (eq-eqb at v e, t) (omega (arith, rest))
            | inr f ↦ rw (eq-eqb at v e, f) (omega (arith, rest))
          ]
      | inr ne ↦
          let rest = present_more (at + 1) n v vs in
          elim (cases_Bool (is_among at vs)) [
            | inl t ↦ rw (ne_eqb at v ne, t) (omega (arith, rest))
            | inr f ↦ rw (ne_eqb at v ne, f) (omega (arith, rest))
          ]
    ]

-- there are at most as many numbers present as values
few_present : (at n : ℕ) (vs : List ℕ) → length (present_from at n vs) ≤ length vs
few_present at n [] = omega (arith, ap length (none_present at n))
few_present at n (v ∷ vs) = omega (arith, present_more at n v vs, few_present at n vs)

-- there are at most as many distinct values as values
pub few_distinct : (vs : List ℕ) → length (distinct vs) ≤ length vs
few_distinct vs = few_present 0 (greatest vs + 1) vs

-- where there are values, there are distinct ones
pub some_distinct : (vs : List ℕ) → 0 < length vs → 0 < length (distinct vs)
some_distinct vs lt = let p = index_of_among (get_or vs 0 0) (distinct vs) (among_distinct (get_or vs 0 0) vs ∙ among_at vs 0 lt) in omega (arith, p.1)

-- ---- indexes

-- each entry of a rising list has its own index
pub index_in-at : (least : ℕ) (ds : List ℕ) (i : ℕ) → Up least ds → i < length ds → index_in ds (get_or ds i 0) ≡ i
unfolding index_in
index_in-at least [] i h lt = absurd (omega arith)
index_in-at least (d ∷ ds) zero h lt = rw (eq-eqb d d refl) refl
index_in-at least (d ∷ ds) (suc i) h lt =
    let above = up_at (suc d) ds i h.1 (omega arith) in
    rw (ne_eqb d (get_or ds i 0) (λ e. omega (arith, e, above))) (omega (arith, index_in-at (suc d) ds i h.1 (omega arith)))

-- the index of a member leads to it
pub index_in-found : (ds : List ℕ) (v : ℕ) → is_among v ds ≡ true → (index_in ds v < length ds) × (get_or ds (index_in ds v) 0 ≡ v)
unfolding index_in is_among
index_in-found [] v h = absurd (false≢true h)
index_in-found (d ∷ ds) v h =
    elim (cases_eq d v) [
      | inl e ↦ rw (eq-eqb d v e) (omega arith, e)
      | inr ne ↦
          let rest : is_among v ds ≡ true = elim (or_cases (eqb v d) (is_among v ds) h) [ inl t ↦ absurd (ne (sym (eqb-true v d t))) | inr r ↦ r ] in
          let p = index_in-found ds v rest in
          let place : index_in ds v + 1 ≡ suc (index_in ds v) = omega arith in
          let next : get_or (d ∷ ds) (index_in ds v + 1) 0 ≡ v = ap (λ (k : ℕ). get_or (d ∷ ds) k 0) place ∙ p.1 in
          rw (ne_eqb d v ne) (omega (arith, p.0), next)
    ]

-- ---- a dictionary with indexes, and the list

-- what a function gives is below a bound if each of its values is
below_map : (n : ℕ) (f : ℕ → ℕ) (vs : List ℕ) → ((i : ℕ) → i < length vs → f (get_or vs i 0) < n) → are_below n (map f vs) ≡ true
unfolding are_below
below_map n f [] h = refl
below_map n f (v ∷ vs) h = rw (lt-ltb (f v) n (h 0 (omega arith))) (below_map n f vs (λ i lt. h (suc i) (omega arith)))

-- a function and its inverse leave a list as it is
map_back : (g f : ℕ → ℕ) (vs : List ℕ) → ((i : ℕ) → i < length vs → g (f (get_or vs i 0)) ≡ get_or vs i 0) → map g (map f vs) ≡ vs
map_back g f [] h = refl
map_back g f (v ∷ vs) h = ap (λ (x : ℕ). x ∷ map g (map f vs)) (h 0 (omega arith))
    ∙ ap (λ (xs : List ℕ). v ∷ xs) (map_back g f vs (λ i lt. h (suc i) (omega arith)))

-- what a list has for a dictionary and for indexes
pub record IsDictOf (vs ds places : List ℕ) : Type 0 where
  pub dict : IsDict ds places
  pub same : looked_up ds places ≡ vs

-- the distinct values and the index of each are a dictionary of the list
pub dict_made : (vs : List ℕ) → IsDictOf vs (distinct vs) (map (index_in (distinct vs)) vs)
dict_made vs =
    let ds = distinct vs in
    let found = λ (i : ℕ) (lt : i < length vs). index_in-found ds (get_or vs i 0) (among_distinct (get_or vs i 0) vs ∙ among_at vs i lt) in
    record {
      dict = record {
        rising = rise_len-up 0 ds (up_distinct vs);
        below = below_map (length ds) (index_in ds) vs (λ i lt. (found i lt).0);
        used = are_used-from (length ds) (map (index_in ds) vs) (λ d lt.
            let p = index_of_among (get_or ds d 0) vs (sym (among_distinct (get_or ds d 0) vs) ∙ among_at ds d lt) in
            among_by d (map (index_in ds) vs) p.0 (omega (arith, p.1, length-map vs (index_in ds)))
            (get_or-map (index_in ds) vs p.0 0 0 p.1 ∙ ap (λ (x : ℕ). index_in ds x) p.2 ∙ index_in-at 0 ds d (up_distinct vs) lt));
      };
      same = map_back (λ p. get_or ds p 0) (index_in ds) vs (λ i lt. (found i lt).1);
    }

-- a dictionary is that of its values
pub dict_same : (ds places : List ℕ) → IsDict ds places → (distinct (looked_up ds places) ≡ ds) × (map (index_in ds) (looked_up ds places) ≡ places)
dict_same ds places d =
    let vs = looked_up ds places in
    let up = up_from-rise_len ds d.rising in
    let n = length-map places (λ p. get_or ds p 0) in (
      distinct_is ds vs up (λ x. same_bool (is_among x ds) (is_among x vs)
          (λ t.
          let p = index_of_among x ds t in
          let q = index_of_among p.0 places (are_used-at (length ds) places p.0 d.used p.1) in
          among_by x vs q.0 (omega (arith, q.1, n)) (get_or-map (λ p. get_or ds p 0) places q.0 0 0 q.1 ∙ ap (λ (k : ℕ). get_or ds k 0) q.2 ∙ p.2))
          (λ t.
          let p = index_of_among x vs t in
          let lt : p.0 < length places = omega (arith, p.1, n) in
          among_by x ds (get_or places p.0 0) (are_below-at (length ds) places p.0 d.below lt) (sym (get_or-map (λ p. get_or ds p 0) places p.0 0 0 lt)
          ∙ p.2))),
      map_back (index_in ds) (λ p. get_or ds p 0) places (λ i lt. index_in-at 0 ds (get_or places i 0) up (are_below-at (length ds) places i d.below lt)),
    )

-- the spelling of the values is that of their dictionary
pub dict_text-looked_up : (ds places : List ℕ) → IsDict ds places →
    dict_text (looked_up ds places) ≡ number (length ds) ++ flat_map number ds ++ compact_text places
unfolding dict_text
dict_text-looked_up ds places d =
    let vs = looked_up ds places in
    let p = dict_same ds places d in
    ap (λ (es : List ℕ). number (length es) ++ flat_map number es ++ compact_text (map (index_in es) vs)) p.0
    ∙ ap (λ (ps : List ℕ). number (length ds) ++ flat_map number ds ++ compact_text ps) p.1

-- ---- one value

-- a value of a mapped list is the mapped value
slice_get-map : (f : ℕ → ℕ) (xs : List ℕ) (i : ℕ) → slice_get (map f xs) i ≡ option_map f (slice_get xs i)
slice_get-map f [] i = refl
slice_get-map f (x ∷ xs) zero = refl
slice_get-map f (x ∷ xs) (suc i) = slice_get-map f xs i

-- a value is the entry at its index
pub slice_get-looked_up : (ds places : List ℕ) (i : ℕ) (r : Option ℕ) → r ≡ slice_get places i →
    slice_get (looked_up ds places) i ≡ option_map (λ p. get_or ds p 0) r
slice_get-looked_up ds places i r e = slice_get-map (λ p. get_or ds p 0) places i ∙ ap (λ (o : Option ℕ). option_map (λ p. get_or ds p 0) o) (sym e)

-- a place that is got is one of those that stand there
pub got_below : (n : ℕ) (places : List ℕ) (i p : ℕ) → are_below n places ≡ true → Some p ≡ slice_get places i → p < n
unfolding are_below
got_below n [] i p h e = absurd cc
got_below n (q ∷ places) zero p h e = let same : p ≡ q = cc in
    omega (arith, ltb-true q n (Rattle.std.proofs.lemmas.Bool.and_parts (ltb q n) (are_below n places) h).0, same)
got_below n (q ∷ places) (suc i) p h e = got_below n places i p (Rattle.std.proofs.lemmas.Bool.and_parts (ltb q n) (are_below n places) h).1 e

-- a number that is present comes first
pub present_yes : (at n : ℕ) (vs : List ℕ) → is_among at vs ≡ true → present_from at (suc n) vs ≡ at ∷ present_from (at + 1) n vs
unfolding present_from
present_yes at n vs t = rw t refl

-- a number that is not present is passed
pub present_no : (at n : ℕ) (vs : List ℕ) → is_among at vs ≡ false → present_from at (suc n) vs ≡ present_from (at + 1) n vs
unfolding present_from
present_no at n vs f = rw f refl

-- no more than no numbers are present among none
pub present_none : (at : ℕ) (vs : List ℕ) → present_from at 0 vs ≡ []
unfolding present_from
present_none at vs = refl
