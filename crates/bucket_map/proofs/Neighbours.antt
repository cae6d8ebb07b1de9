-- The least clash of sorted records stands among neighbours.
use Rattle.std.proofs.Common.{◌≡◌, ℕ, ◌+◌, ◌-◌, ◌<◌, ◌≤◌, ◌⊎◌, ◌&&◌, ◌==◌, inl, inr}
use Rattle.std.proofs.Common.{true, false, leb, List, Option, Some, None, MatchOption, refl, ap, subst, arith}
use Rattle.std.proofs.lemmas.Bool.{cases_lt}
use Rattle.std.proofs.lemmas.Bool.Decides.{eqb_tells, nat_tests}
use Rattle.pthash.specs.declared.Record.{Record}
use Rattle.bucket_map.specs.Clash.{HaveSamePair, record_at, with_neighbours}

-- the records at a place and before it have the same pair
abbrev pub Repeats : List Record → ℕ → Type 0
Repeats records k = HaveSamePair (record_at records (k - 1)) (record_at records k)

-- of the places before n that repeat their neighbour the one of the least ordinal
pub record IsLeastRepeat (records : List Record) (n : ℕ) (clash : ℕ × ℕ) : Type 0 where
  pub place : ℕ
  pub low : 0 < place
  pub high : place < n
  pub repeats : Repeats records place
  pub first : clash.0 ≡ (record_at records (place - 1)).ordinal
  pub second : clash.1 ≡ (record_at records place).ordinal
  pub least : (k : ℕ) → 0 < k → k < n → Repeats records k → clash.1 ≤ (record_at records k).ordinal

-- what is known of the least clash among the first n records
abbrev pub IsLeastOf : List Record → ℕ → Option (ℕ × ℕ) → Type 0
IsLeastOf records n least =
    MatchOption least ((k : ℕ) → 0 < k → k < n → Repeats records k → ⊥) (IsLeastRepeat records n)

-- whether two records have the same pair
pair_tells : (x y : Record) → (((x.a == y.a && x.b == y.b) ≡ true) × HaveSamePair x y) ⊎ (((x.a == y.a && x.b == y.b) ≡ false) × ¬ HaveSamePair x y)
pair_tells x y =
    elim (eqb_tells x.a y.a) [
      | inl same_a ↦ elim (eqb_tells x.b y.b) [
        | inl same_b ↦ inl (rw (same_a.0, same_b.0) refl, (same_a.1, same_b.1))
        | inr other_b ↦ inr (rw (same_a.0, other_b.0) refl, λ h. other_b.1 h.1)
      ]
      | inr other_a ↦ inr (rw other_a.0 refl, λ h. other_a.1 h.0)
    ]

-- which of two numbers is the lesser
leb_tells : (m n : ℕ) → ((leb m n ≡ true) × (m ≤ n)) ⊎ ((leb m n ≡ false) × (n < m))
leb_tells m n =
    elim (cases_lt n m) [
      | inl below ↦ inr (grind (arith, nat_tests), below)
      | inr above ↦ inl (grind (arith, nat_tests), above)
    ]

-- the next place doesn't repeat its neighbour
least-other : (records : List Record) (n : ℕ) (least : Option (ℕ × ℕ)) → ¬ Repeats records n
    → IsLeastOf records n least → IsLeastOf records (n + 1) least
least-other records n None other before =
    λ k low high repeats. elim (cases_lt k n) [
      | inl below ↦ before k low below repeats
      | inr last ↦
          let same : k ≡ n = omega arith in
          let P : ℕ → Type 0 = λ k. Repeats records k in other (subst P same repeats)
    ]
least-other records n (Some clash) other before =
    record {
      place = before.place;
      low = before.low;
      high = let high = before.high in omega arith;
      repeats = before.repeats;
      first = before.first;
      second = before.second;
      least = λ k low high repeats. elim (cases_lt k n) [
        | inl below ↦ before.least k low below repeats
        | inr last ↦
            let same : k ≡ n = omega arith in
            let P : ℕ → Type 0 = λ k. Repeats records k in absurd (other (subst P same repeats))
      ];
    }

-- the next place repeats its neighbour with the least ordinal so far
least-here : (records : List Record) (n : ℕ) → 0 < n → Repeats records n
    → ((k : ℕ) → 0 < k → k < n → Repeats records k → (record_at records n).ordinal ≤ (record_at records k).ordinal)
    → IsLeastRepeat records (n + 1) ((record_at records (n - 1)).ordinal, (record_at records n).ordinal)
least-here records n some repeats least =
    record {
      place = n;
      low = some;
      high = omega arith;
      repeats = repeats;
      first = refl;
      second = refl;
      least = λ k low high also. elim (cases_lt k n) [
        | inl below ↦ least k low below also
        | inr last ↦
            let same : n ≡ k = omega arith in
            let ordinal = ap (λ (k : ℕ). (record_at records k).ordinal) same in omega arith
      ];
    }

-- one more place
pub least-more : (records : List Record) (n : ℕ) (least : Option (ℕ × ℕ)) → 0 < n
    → IsLeastOf records n least → IsLeastOf records (n + 1) (with_neighbours least (record_at records (n - 1)) (record_at records n))
least-more records n None some before =
    let x = record_at records (n - 1) in
    let y = record_at records n in
    elim (pair_tells x y) [
      | inl same ↦ rw same.0 (least-here records n some same.1 (λ k low high repeats. absurd (before k low high repeats)))
      | inr other ↦ rw other.0 (least-other records n None other.1 before)
    ]
least-more records n (Some clash) some before =
    let x = record_at records (n - 1) in
    let y = record_at records n in
    elim (pair_tells x y) [
      | inl same ↦ elim (leb_tells clash.1 y.ordinal) [
        | inl stays ↦
            rw (same.0, stays.0) (record {
              place = before.place;
              low = before.low;
              high = let high = before.high in omega arith;
              repeats = before.repeats;
              first = before.first;
              second = before.second;
              least = λ k low high repeats. elim (cases_lt k n) [
                | inl below ↦ before.least k low below repeats
                | inr last ↦
                    let here : n ≡ k = omega arith in
                    let ordinal = ap (λ (k : ℕ). (record_at records k).ordinal) here in
                    let small = stays.1 in omega arith
              ];
            })
        | inr lesser ↦
            rw (same.0, lesser.0) (least-here records n some same.1
            (λ k low high repeats. let bound = before.least k low high repeats in let less = lesser.1 in omega arith))
      ]
      | inr other ↦ rw other.0 (least-other records n (Some clash) other.1 before)
    ]

-- no place is before the first
pub least-none : (records : List Record) (n : ℕ) → n ≤ 1 → IsLeastOf records n None
least-none records n few = λ k low high repeats. omega arith
