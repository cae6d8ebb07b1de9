-- How many values at the front are below a bound.
use Rattle.std.proofs.Common.{◌≡◌, ℕ, zero, suc, ◌+◌, ◌-◌, ◌<◌, ◌≤◌, Bool, cond, ltb, List, [], ◌∷◌, ◌++◌, length}
use Rattle.std.proofs.Common.{get_or, refl, sym, ap, ◌∙◌}
use Rattle.std.proofs.Common.{inl, inr, arith}
use Rattle.std.specs.Prelude.{option_map}
use Rattle.std.specs.List.{slice_get}
use Rattle.std.proofs.lemmas.Bool.{cases_lt, ltb-true, ltb-false, eq-eqb, ne_eqb}
use Rattle.std.proofs.lemmas.List.Sums.{prefix_len_passes, prefix_len_stops}
use Rattle.std.proofs.lemmas.List.Folds.{prefix_len-append}
use Rattle.elias_fano.specs.Values.{below_len}
use Rattle.elias_fano.proofs.CallerLemmas.{slice_get-is, below_len-most}
use Rattle.pilot_codecs.specs.Spelling.{greatest}
use Rattle.pilot_codecs.specs.Reading.{looked_up, steps_from}
use Rattle.pilot_codecs.specs.Parts.{IsDict}
use Rattle.pilot_codecs.proofs.FieldLemmas.{get_or-le-greatest}
use Rattle.pilot_codecs.proofs.DictLemmas.{some_is, are_below-at}
use Rattle.pilot_codecs.proofs.DictMembers.{up_from-rise_len}
use Rattle.pilot_codecs.proofs.DictLaws.{slice_get-looked_up}
use Rattle.pilot_codecs.proofs.SortLemmas.{up_in_order}
use Rattle.pilot_codecs.proofs.SumLemmas.{length-steps_from}

-- all of them where each is
pub below_each : (bound : ℕ) (vs : List ℕ) → ((i : ℕ) → i < length vs → get_or vs i 0 < bound) → below_len bound vs ≡ length vs
below_each bound vs h =
    let n = below_len bound vs in
    elim (cases_lt n (length vs)) [
      | inl less ↦
          let stops = ltb-false (get_or vs n 0) bound (prefix_len_stops (λ (v : ℕ). ltb v bound) vs 0 less) in
          absurd (omega (arith, stops, h n less))
      | inr ge ↦ omega (arith, below_len-most bound vs)
    ]

-- each of them where all are
pub each_below : (bound : ℕ) (vs : List ℕ) (i : ℕ) → below_len bound vs ≡ length vs → i < length vs → get_or vs i 0 < bound
each_below bound vs i e lt = ltb-true (get_or vs i 0) bound (prefix_len_passes (λ (v : ℕ). ltb v bound) vs i 0 (omega (arith, e)))

-- all of them where the greatest is
pub below_greatest : (bound : ℕ) (vs : List ℕ) → greatest vs < bound → below_len bound vs ≡ length vs
below_greatest bound vs lt = below_each bound vs (λ i within. omega (arith, get_or-le-greatest vs i))

-- one more
pub below_more : (bound : ℕ) (vs : List ℕ) (i : ℕ) → i ≤ below_len bound vs → i < length vs → get_or vs i 0 < bound →
    i + 1 ≤ below_len bound vs
below_more bound vs i le lt less =
    let n = below_len bound vs in
    elim (cases_lt i n) [
      | inl more ↦ omega (arith, more)
      | inr ge ↦
          let same : n ≡ i = omega arith in
          let stops = ltb-false (get_or vs n 0) bound (prefix_len_stops (λ (v : ℕ). ltb v bound) vs 0 (omega (arith, same))) in
          let there = ap (λ (k : ℕ). get_or vs k 0) same in
          absurd (omega (arith, stops, there, less))
    ]

-- in two lists, where not all of the first are
pub below-front : (bound : ℕ) (xs ys : List ℕ) → below_len bound xs < length xs → below_len bound (xs ++ ys) ≡ below_len bound xs
below-front bound xs ys lt =
    prefix_len-append (λ (v : ℕ). ltb v bound) xs ys
    ∙ ap (λ (b : Bool). cond b (length xs + below_len bound ys) (below_len bound xs)) (ne_eqb (below_len bound xs) (length xs) (λ e. omega (arith, e)))

-- in two lists, where all of the first are
pub below-back : (bound : ℕ) (xs ys : List ℕ) → length xs ≤ below_len bound xs → below_len bound (xs ++ ys) ≡ length xs + below_len bound ys
below-back bound xs ys le =
    prefix_len-append (λ (v : ℕ). ltb v bound) xs ys
    ∙ ap (λ (b : Bool). cond b (length xs + below_len bound ys) (below_len bound xs))
    (eq-eqb (below_len bound xs) (length xs) (omega (arith, below_len-most bound xs)))

-- a value by its index is an entry
pub looked_up-at : (ds places : List ℕ) (i : ℕ) → i < length places → i < length (looked_up ds places) →
    get_or (looked_up ds places) i 0 ≡ get_or ds (get_or places i 0) 0
looked_up-at ds places i lt within =
    let found = slice_get-looked_up ds places i (slice_get places i) refl in
    let place = slice_get-is places i 0 lt in
    some_is (get_or (looked_up ds places) i 0) (get_or ds (get_or places i 0) 0)
    (sym (slice_get-is (looked_up ds places) i 0 within) ∙ found
    ∙ ap (λ (r : Rattle.std.proofs.Common.Option ℕ). option_map (λ p. get_or ds p 0) r) place)

-- all values are where the last entry is
pub dict_within : (bound : ℕ) (ds places : List ℕ) → IsDict ds places → (0 < length ds → get_or ds (length ds - 1) 0 < bound) →
    below_len bound (looked_up ds places) ≡ length (looked_up ds places)
dict_within bound ds places d last =
    below_each bound (looked_up ds places) (λ i within.
    let lt : i < length places = omega (arith, within, Rattle.std.proofs.lemmas.List.length-map places (λ (p : ℕ). get_or ds p 0)) in
    let p = get_or places i 0 in
    let entry : p < length ds = are_below-at (length ds) places i d.below lt in
    let up = up_in_order 0 ds (up_from-rise_len ds d.rising) p (length ds - 1) (omega arith) (omega arith) in
    omega (arith, looked_up-at ds places i lt within, up, last (omega arith)))

-- no step is above its sum
steps-le : (b : ℕ) (ss : List ℕ) (i : ℕ) → get_or (steps_from b ss) i 0 ≤ get_or ss i 0
unfolding steps_from
steps-le b [] i = omega arith
steps-le b (s ∷ ss) zero = omega arith
steps-le b (s ∷ ss) (suc i) = steps-le s ss i

-- all values are where their sums are
pub steps_within : (bound : ℕ) (ss : List ℕ) → below_len bound ss ≡ length ss → below_len bound (steps_from 0 ss) ≡ length (steps_from 0 ss)
steps_within bound ss e =
    below_each bound (steps_from 0 ss) (λ i lt. omega (arith, steps-le 0 ss i, each_below bound ss i e (omega (arith, lt, length-steps_from 0 ss))))

-- what was passed, and a group all of which is below
pub below_passed : (bound passed total : ℕ) (g rest : List ℕ) → passed + below_len bound (g ++ rest) ≡ total → length g ≤ below_len bound g →
    passed + below_len bound g + below_len bound rest ≡ total
below_passed bound passed total g rest so_far le = omega (arith, so_far, below-back bound g rest le, below_len-most bound g, le)

-- what was passed, and a group not all of which is below
pub below_stopped : (bound passed total : ℕ) (g rest : List ℕ) → passed + below_len bound (g ++ rest) ≡ total → below_len bound g < length g →
    passed + below_len bound g ≡ total
below_stopped bound passed total g rest so_far lt = omega (arith, so_far, below-front bound g rest lt)

-- no more is passed than there is
pub below_room : (bound passed total : ℕ) (g rest : List ℕ) → passed + below_len bound (g ++ rest) ≡ total → passed + below_len bound g ≤ total
below_room bound passed total g rest so_far =
    elim (cases_lt (below_len bound g) (length g)) [
      | inl lt ↦ omega (arith, below_stopped bound passed total g rest so_far lt)
      | inr le ↦ omega (arith, below_passed bound passed total g rest so_far le)
    ]
