-- The least repeat among the neighbours of sorted records is the least clash of all.
use Rattle.std.proofs.Common.{◌≡◌, ◌≢◌, ℕ, ◌+◌, ◌-◌, ◌<◌, ◌≤◌, ◌↔◌, inl, inr, max, true, false}
use Rattle.std.proofs.Common.{List, length, Option, Some, None, IsNone, IfSome, refl, sym, ap, ◌∙◌, subst, arith}
use Rattle.std.specs.List.{AllPairs}
use Rattle.std.proofs.lemmas.Bool.{cases_order}
use Rattle.std.proofs.lemmas.List.{get_or_default}
use Rattle.pthash.specs.declared.Record.{Record}
use Rattle.bucket_map.specs.Clash.{HaveSamePair, HasDistinctPairs, HasDistinctOrdinals, record_at, Clash, IsLeastClash, IsNoLater}
use Rattle.bucket_map.proofs.Neighbours.{Repeats, IsLeastRepeat, IsLeastOf}

-- what a place outside of the list reads as
abbrev NO_RECORD : Record
NO_RECORD = record { a = 0; b = 0; ordinal = 0 }

-- a record between two of the same pair has the same pair
between : (x y z : Record) → IsNoLater x y → IsNoLater y z → HaveSamePair x z → HaveSamePair x y
between x y z (inl a) (inl p) same = let e = same.0 in absurd (omega arith)
between x y z (inl a) (inr p) same = let e = same.0 in let f = p.0 in absurd (omega arith)
between x y z (inr a) (inl p) same = let e = same.0 in let f = a.0 in absurd (omega arith)
between x y z (inr (a, inl b)) (inr (p, inl q)) same = let e = same.1 in absurd (omega arith)
between x y z (inr (a, inl b)) (inr (p, inr q)) same = let e = same.1 in let f = q.0 in absurd (omega arith)
between x y z (inr (a, inr b)) (inr p) same = (a, b.0)

-- of two records of the same pair the earlier one has the lesser ordinal, or the same
ordinal_le : (x y : Record) → IsNoLater x y → HaveSamePair x y → x.ordinal ≤ y.ordinal
ordinal_le x y (inl a) same = let e = same.0 in absurd (omega arith)
ordinal_le x y (inr (a, inl b)) same = let e = same.1 in absurd (omega arith)
ordinal_le x y (inr (a, inr b)) same = b.1

-- the same pair either way round
same_pair-sym : (x y : Record) → HaveSamePair x y → HaveSamePair y x
same_pair-sym x y same = (sym same.0, sym same.1)

-- the same pair as a record of the same pair
same_pair-trans : (x y z : Record) → HaveSamePair x y → HaveSamePair y z → HaveSamePair x z
same_pair-trans x y z same also = (same.0 ∙ also.0, same.1 ∙ also.1)

-- the same pair at any place between
module _ (records : List Record) (sorted : AllPairs IsNoLater records) where
  -- a place between two of the same pair has it too
  at_between : (p m q : ℕ) → p < m → m < q → q < length records
      → HaveSamePair (record_at records p) (record_at records q) → HaveSamePair (record_at records p) (record_at records m)
  at_between p m q low high inside same =
      between (record_at records p) (record_at records m) (record_at records q)
      (sorted p m NO_RECORD low (omega arith)) (sorted m q NO_RECORD high inside) same

  -- a record that repeats an earlier one repeats its neighbour
  repeats_far : (p q : ℕ) → p < q → q < length records → HaveSamePair (record_at records p) (record_at records q) → Repeats records q
  repeats_far p q low inside same =
      elim (cases_order p (q - 1)) [
        | inl next ↦
            let P : ℕ → Type 0 = λ k. HaveSamePair (record_at records k) (record_at records q) in subst P next same
        | inr far ↦ elim far [
          | inl below ↦
              same_pair-trans (record_at records (q - 1)) (record_at records p) (record_at records q)
              (same_pair-sym (record_at records p) (record_at records (q - 1)) (at_between p (q - 1) q below (omega arith) inside same)) same
          | inr above ↦ absurd (omega arith)
        ]
      ]

  -- and the record after the earlier one repeats that
  repeats_next : (p q : ℕ) → p + 1 < q → q < length records → HaveSamePair (record_at records p) (record_at records q) → Repeats records (p + 1)
  repeats_next p q low inside same =
      let here : p ≡ p + 1 - 1 = omega arith in
      let P : ℕ → Type 0 = λ k. HaveSamePair (record_at records k) (record_at records (p + 1)) in
      subst P here (at_between p (p + 1) q (omega arith) low inside same)

  -- with distinct ordinals the earlier record has the lesser one
  ordinal_lt : HasDistinctOrdinals records → (p q : ℕ) → p < q → q < length records
      → HaveSamePair (record_at records p) (record_at records q) → (record_at records p).ordinal < (record_at records q).ordinal
  ordinal_lt distinct p q low inside same =
      let le = ordinal_le (record_at records p) (record_at records q) (sorted p q NO_RECORD low inside) same in
      let ne : (record_at records p).ordinal ≢ (record_at records q).ordinal = distinct p q NO_RECORD low inside in
      omega (arith, ne)

  -- two records of the same pair stand in the order of their ordinals
  in_order : HasDistinctOrdinals records → (p q : ℕ) → p ≢ q → p < length records → q < length records
      → HaveSamePair (record_at records p) (record_at records q) → (record_at records p).ordinal < (record_at records q).ordinal → p < q
  in_order distinct p q apart p_in q_in same less =
      elim (cases_order p q) [
        | inl here ↦ absurd (apart here)
        | inr order ↦ elim order [
          | inl low ↦ low
          | inr high ↦
              let more = ordinal_lt distinct q p high p_in (same_pair-sym (record_at records p) (record_at records q) same) in
              absurd (omega arith)
        ]
      ]

  -- the place of an ordinal
  same_place : HasDistinctOrdinals records → (p q : ℕ) → p < length records → q < length records
      → (record_at records p).ordinal ≡ (record_at records q).ordinal → p ≡ q
  same_place distinct p q p_in q_in same =
      elim (cases_order p q) [
        | inl here ↦ here
        | inr order ↦ elim order [
          | inl low ↦ absurd (distinct p q NO_RECORD low q_in same)
          | inr high ↦ absurd (distinct q p NO_RECORD high p_in (sym same))
        ]
      ]

  -- no neighbours repeat exactly where all pairs differ
  pub none-is : (n : ℕ) (least : Option (ℕ × ℕ)) → length records ≤ n → n ≤ max 1 (length records)
      → IsLeastOf records n least → IsNone least ↔ HasDistinctPairs records
  none-is n None all within none = (
    λ _ i j d low inside same.
        let x = get_or_default records i d NO_RECORD (omega arith) in
        let y = get_or_default records j d NO_RECORD inside in
        none j (omega arith) (omega arith)
        (repeats_far i j low inside (
          ap (λ (r : Record). r.a) (sym x) ∙ same.0 ∙ ap (λ (r : Record). r.a) y,
          ap (λ (r : Record). r.b) (sym x) ∙ same.1 ∙ ap (λ (r : Record). r.b) y,
        )),
    λ _. refl,
  )
  none-is n (Some clash) all within repeat = (
    λ none. absurd (let no : true ≡ false = none in cc),
    λ differ.
        let low = repeat.low in
        let high = repeat.high in
        absurd (differ (repeat.place - 1) repeat.place NO_RECORD (omega arith) (omega arith) repeat.repeats),
  )

  -- the least repeat is a clash
  clash-is : (n : ℕ) (clash : ℕ × ℕ) → n ≤ max 1 (length records) → length records ≤ n
      → IsLeastRepeat records n clash → Clash records clash.0 clash.1
  clash-is n clash within all repeat =
      let low = repeat.low in
      let high = repeat.high in
      record {
        first = repeat.place - 1;
        second = repeat.place;
        apart = λ e. omega arith;
        first_inside = omega arith;
        second_inside = omega arith;
        first_ordinal = sym repeat.first;
        second_ordinal = sym repeat.second;
        same_pair = repeat.repeats;
      }

  -- with distinct ordinals it is the least
  least-is : HasDistinctOrdinals records → (n : ℕ) (clash : ℕ × ℕ) → n ≤ max 1 (length records) → length records ≤ n
      → IsLeastRepeat records n clash → IsLeastClash records clash.0 clash.1
  least-is distinct n clash within all repeat =
      let place = repeat.place in
      let low = repeat.low in
      let high = repeat.high in
      let inside : place < length records = omega arith in
      let first = repeat.first in
      let second = repeat.second in
      let lesser = ordinal_lt distinct (place - 1) place (omega arith) inside repeat.repeats in
      record {
        clash = clash-is n clash within all repeat;
        earlier = omega arith;
        least_second = λ x y less other.
            let x_is = other.first_ordinal in
            let y_is = other.second_ordinal in
            let before : other.first < other.second =
            in_order distinct other.first other.second other.apart other.first_inside other.second_inside other.same_pair (omega arith) in
            let bound = repeat.least other.second (omega arith) (let far = other.second_inside in omega arith)
            (repeats_far other.first other.second before other.second_inside other.same_pair) in
            omega arith;
        least_first = λ x less other.
            let x_is = other.first_ordinal in
            let j_is = other.second_ordinal in
            let before : other.first < other.second =
            in_order distinct other.first other.second other.apart other.first_inside other.second_inside other.same_pair (omega arith) in
            let here : other.second ≡ place = same_place distinct other.second place other.second_inside inside (j_is ∙ second) in
            elim (cases_order (other.first + 1) place) [
              | inl next ↦
                  let at : other.first ≡ place - 1 = omega arith in
                  let same = ap (λ (k : ℕ). (record_at records k).ordinal) at in
                  omega arith
              | inr order ↦ elim order [
                | inl far ↦
                    let P : ℕ → Type 0 = λ k. HaveSamePair (record_at records other.first) (record_at records k) in
                    let pair : HaveSamePair (record_at records other.first) (record_at records place) = subst P here other.same_pair in
                    let also = repeats_next other.first place far inside pair in
                    let bound = repeat.least (other.first + 1) (omega arith) (omega arith) also in
                    let still : HaveSamePair (record_at records (other.first + 1)) (record_at records place) =
                    same_pair-trans (record_at records (other.first + 1)) (record_at records other.first) (record_at records place)
                    (same_pair-sym (record_at records other.first) (record_at records (other.first + 1))
                    (at_between other.first (other.first + 1) place (omega arith) far inside pair)) pair in
                    let sooner = ordinal_lt distinct (other.first + 1) place far inside still in
                    absurd (omega arith)
                | inr past ↦ absurd (omega arith)
              ]
            ];
      }

  -- what is found is a clash
  pub some-clash : (n : ℕ) (least : Option (ℕ × ℕ)) → n ≤ max 1 (length records) → length records ≤ n
      → IsLeastOf records n least → IfSome least (λ c. Clash records c.0 c.1)
  some-clash n None within all none = tt
  some-clash n (Some clash) within all repeat = clash-is n clash within all repeat

  -- with distinct ordinals what is found is the least clash
  pub some-least : HasDistinctOrdinals records → (n : ℕ) (least : Option (ℕ × ℕ)) → n ≤ max 1 (length records) → length records ≤ n
      → IsLeastOf records n least → IfSome least (λ c. IsLeastClash records c.0 c.1)
  some-least distinct n None within all none = tt
  some-least distinct n (Some clash) within all repeat = least-is distinct n clash within all repeat
