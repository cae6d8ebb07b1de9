-- Where a permutation moves each record, and what it keeps of clashes.
use Rattle.std.proofs.Common.{◌≡◌, ◌≢◌, ℕ, ◌<◌, inl, inr, Bool, true, false, cond, eqb, List, length, get_or, set, refl, sym, ap}
use Rattle.std.proofs.Common.{◌∙◌, subst, arith}
use Rattle.std.specs.List.{AllPairs, swap}
use Rattle.std.specs.List.Sorted.{IsPermutation}
use Rattle.std.proofs.lemmas.Bool.{cases_order}
use Rattle.std.proofs.lemmas.Bool.Decides.{eqb_tells, nat_tests}
use Rattle.std.proofs.lemmas.List.{get_or_default, length-set, get_or-set_same, get_or-set_other}
use Rattle.std.proofs.lemmas.List.Edits.{swap_is, length-swap}
use Rattle.std.proofs.lemmas.List.Sorted.{IsPermutation-keeps}
use Rattle.pthash.specs.declared.Record.{Record}
use Rattle.bucket_map.specs.Clash.{HaveSamePair, HasDistinctPairs, HasDistinctOrdinals, record_at, Clash, IsLeastClash}

-- what a place outside of the list reads as
abbrev NO_RECORD : Record
NO_RECORD = record { a = 0; b = 0; ordinal = 0 }

-- each record of ys stands in xs at a place of its own
pub record IsMovedFrom (xs ys : List Record) : Type 0 where
  pub len : length ys ≡ length xs
  pub from : ℕ → ℕ
  pub inside : (k : ℕ) → k < length ys → from k < length xs
  pub same : (k : ℕ) → k < length ys → record_at ys k ≡ record_at xs (from k)
  pub apart : (j k : ℕ) → j < length ys → k < length ys → j ≢ k → from j ≢ from k

-- the other one of two places
abbrev exchanged : ℕ → ℕ → ℕ → ℕ
exchanged i j k = cond (eqb k j) i (cond (eqb k i) j k)

-- a list is moved from itself
moved-start : (xs : List Record) → IsMovedFrom xs xs
moved-start xs =
    record { len = refl; from = λ k. k; inside = λ k h. h; same = λ k h. refl; apart = λ j k j_in k_in ne. ne }

-- the other place is inside too
exchanged-lt : (n i j k : ℕ) → i < n → j < n → k < n → exchanged i j k < n
exchanged-lt n i j k i_in j_in k_in =
    elim (eqb k j) as (λ b. cond b i (cond (eqb k i) j k) < n) [
      | true ↦ i_in
      | false ↦ elim (eqb k i) as (λ b. cond b j k < n) [ true ↦ j_in | false ↦ k_in ]
    ]

-- different places have different other places
exchanged-apart : (i j p q : ℕ) → p ≢ q → exchanged i j p ≢ exchanged i j q
exchanged-apart i j p q ne = grind (arith, nat_tests)

-- a swap reads as the other place
record_at-swap : (l : List Record) (i j k : ℕ) → i < length l → j < length l → record_at (swap l i j) k ≡ record_at l (exchanged i j k)
record_at-swap l i j k i_in j_in =
    let front = set l i (record_at l j) in
    let inside : j < length front = omega (arith, length-set l i (record_at l j)) in
    ap (λ (xs : List Record). record_at xs k) (sym (swap_is l i j NO_RECORD i_in j_in))
    ∙ elim (eqb_tells k j) [
      | inl last ↦
          ap (λ (k : ℕ). record_at (set front j (record_at l i)) k) last.1
          ∙ get_or-set_same front j (record_at l i) NO_RECORD inside
          ∙ ap (λ (b : Bool). record_at l (cond b i (cond (eqb k i) j k))) (sym last.0)
      | inr other ↦
          get_or-set_other front j k (record_at l i) NO_RECORD other.1
          ∙ elim (eqb_tells k i) [
            | inl first ↦
                ap (λ (k : ℕ). record_at front k) first.1
                ∙ get_or-set_same l i (record_at l j) NO_RECORD i_in
                ∙ ap (λ (b : Bool). record_at l (cond b j k)) (sym first.0)
                ∙ ap (λ (b : Bool). record_at l (cond b i (cond (eqb k i) j k))) (sym other.0)
            | inr neither ↦
                get_or-set_other l i k (record_at l j) NO_RECORD neither.1
                ∙ ap (λ (b : Bool). record_at l (cond b j k)) (sym neither.0)
                ∙ ap (λ (b : Bool). record_at l (cond b i (cond (eqb k i) j k))) (sym other.0)
          ]
    ]

-- a swap moves two records
moved-step : (xs l : List Record) (i j : ℕ) → i < length l → j < length l → IsMovedFrom xs l → IsMovedFrom xs (swap l i j)
moved-step xs l i j i_in j_in moved =
    let len = length-swap l i j in
    let at = λ (k : ℕ) (h : k < length (swap l i j)). exchanged-lt (length l) i j k i_in j_in (omega arith) in
    record {
      len = len ∙ moved.len;
      from = λ k. moved.from (exchanged i j k);
      inside = λ k h. moved.inside (exchanged i j k) (exchanged-lt (length l) i j k i_in j_in (omega arith));
      same = λ k h. record_at-swap l i j k i_in j_in ∙ moved.same (exchanged i j k) (exchanged-lt (length l) i j k i_in j_in (omega arith));
      apart = λ p q p_in q_in ne.
          moved.apart (exchanged i j p) (exchanged i j q) (exchanged-lt (length l) i j p i_in j_in (omega arith))
          (exchanged-lt (length l) i j q i_in j_in (omega arith)) (exchanged-apart i j p q ne);
    }

-- a permutation moves each record
pub moved : (xs ys : List Record) → IsPermutation xs ys → IsMovedFrom xs ys
moved xs ys permutation = IsPermutation-keeps xs (IsMovedFrom xs) (moved-start xs) (moved-step xs) ys permutation

-- a clash stays one
pub clash-moved : (xs ys : List Record) → IsMovedFrom xs ys → (i j : ℕ) → Clash ys i j → Clash xs i j
clash-moved xs ys moved i j clash =
    let f = moved.same clash.first clash.first_inside in
    let s = moved.same clash.second clash.second_inside in
    record {
      first = moved.from clash.first;
      second = moved.from clash.second;
      apart = moved.apart clash.first clash.second clash.first_inside clash.second_inside clash.apart;
      first_inside = moved.inside clash.first clash.first_inside;
      second_inside = moved.inside clash.second clash.second_inside;
      first_ordinal = ap (λ (r : Record). r.ordinal) (sym f) ∙ clash.first_ordinal;
      second_ordinal = ap (λ (r : Record). r.ordinal) (sym s) ∙ clash.second_ordinal;
      same_pair = (
        ap (λ (r : Record). r.a) (sym f) ∙ clash.same_pair.0 ∙ ap (λ (r : Record). r.a) s,
        ap (λ (r : Record). r.b) (sym f) ∙ clash.same_pair.1 ∙ ap (λ (r : Record). r.b) s,
      );
    }

-- what holds of each two records, either way round, still does
pub AllPairs-moved : (R : Record → Record → Type 0) → ((x y : Record) → R x y → R y x) → (xs ys : List Record) → IsMovedFrom xs ys
    → AllPairs R xs → AllPairs R ys
AllPairs-moved R either xs ys moved all =
    λ i j d i_lt_j j_in.
    let i_in : i < length ys = omega arith in
    let i_is = get_or_default ys i d NO_RECORD i_in ∙ moved.same i i_in in
    let j_is = get_or_default ys j d NO_RECORD j_in ∙ moved.same j j_in in
    let from_i = moved.inside i i_in in
    let from_j = moved.inside j j_in in
    let both : R (record_at xs (moved.from i)) (record_at xs (moved.from j)) =
    elim (cases_order (moved.from i) (moved.from j)) [
      | inl same ↦ absurd (moved.apart i j i_in j_in (λ e. omega arith) same)
      | inr order ↦ elim order [
        | inl below ↦ all (moved.from i) (moved.from j) NO_RECORD below from_j
        | inr above ↦ either (record_at xs (moved.from j)) (record_at xs (moved.from i)) (all (moved.from j) (moved.from i) NO_RECORD above from_i)
      ]
    ] in
    let P : Record → Type 0 = λ x. R x (get_or ys j d) in
    let Q : Record → Type 0 = λ y. R (record_at xs (moved.from i)) y in
    subst P (sym i_is) (subst Q (sym j_is) both)

-- distinct pairs stay distinct
pub pairs-moved : (xs ys : List Record) → IsMovedFrom xs ys → HasDistinctPairs xs → HasDistinctPairs ys
pairs-moved = AllPairs-moved (λ x y. ¬ HaveSamePair x y) (λ x y differ same. differ (sym same.0, sym same.1))

-- distinct ordinals stay distinct
pub ordinals-moved : (xs ys : List Record) → IsMovedFrom xs ys → HasDistinctOrdinals xs → HasDistinctOrdinals ys
ordinals-moved = AllPairs-moved (λ x y. x.ordinal ≢ y.ordinal) (λ x y differ same. differ (sym same))

-- the least clash stays the least
pub least-moved : (xs ys : List Record) → IsMovedFrom xs ys → IsMovedFrom ys xs → (i j : ℕ) → IsLeastClash ys i j → IsLeastClash xs i j
least-moved xs ys moved back i j least =
    record {
      clash = clash-moved xs ys moved i j least.clash;
      earlier = least.earlier;
      least_second = λ x y less other. least.least_second x y less (clash-moved ys xs back x y other);
      least_first = λ x less other. least.least_first x less (clash-moved ys xs back x j other);
    }
