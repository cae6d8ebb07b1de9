-- Numbers that are sorted to see whether one comes twice.
use Rattle.std.proofs.Common.{◌≡◌, ◌+◌, ◌-◌, ◌<◌, ◌≤◌, ◌∷◌, ◌∙◌}
use Rattle.std.proofs.Common.{ℕ, zero, suc, true, false, List, [], length, take, get_or, refl, sym, ap, arith, ⊎_elim}
use Rattle.std.specs.Prelude.{◌==◌}
use Rattle.std.specs.List.Sorted.{IsPermutation, IsSorted}
use Rattle.std.specs.Ordering.{nat_cmp, is_lt}
use Rattle.std.specs.declared.cmp.Ordering.TheVariants.{Less}
use Rattle.std.proofs.lemmas.Bool.{both_ways, cases_lt, eq-eqb, false_from_ne_true, lt-ltb, ne_eqb, or_from}
use Rattle.std.proofs.lemmas.List.{get_or-take, length-take-le}
use Rattle.std.proofs.lemmas.List.Folds.{list_any_at, list_any_more}
use Rattle.std.proofs.lemmas.List.Sorted.{IsPermutation-sym, sum_by-IsPermutation}
use Rattle.pthash.specs.ApartCounts.{count_of, count_of-distinct, is_distinct-counted, one_if}
use Rattle.pthash.specs.Search.{is_among, is_distinct}

-- distinct numbers are distinct in another order
distinct_moved : (xs ys : List ℕ) → IsPermutation xs ys → is_distinct xs ≡ true → is_distinct ys ≡ true
distinct_moved xs ys moved distinct =
    is_distinct-counted ys (λ p.
    let same : count_of p ys ≡ count_of p xs = sum_by-IsPermutation (λ (y : ℕ). one_if (y == p)) xs ys moved in
    omega (arith, same, count_of-distinct xs distinct p))

-- whether numbers are distinct doesn't depend on their order
pub is_distinct-permutation : (xs ys : List ℕ) → IsPermutation xs ys → is_distinct xs ≡ is_distinct ys
is_distinct-permutation xs ys moved =
    elim (is_distinct xs) as (λ b. is_distinct xs ≡ b → b ≡ is_distinct ys) [
      | true ↦ λ distinct. sym (distinct_moved xs ys moved distinct)
      | false ↦ λ repeated.
          sym (false_from_ne_true (is_distinct ys) (λ distinct.
          both_ways (is_distinct xs) repeated (distinct_moved ys xs (IsPermutation-sym xs ys moved) distinct)))
    ] refl

-- a number above all earlier ones is none of them
pub none_among : (xs : List ℕ) (i x : ℕ) → i ≤ length xs → ((k : ℕ) → k < i → get_or xs k 0 < x) → is_among (take i xs) x ≡ false
none_among [] zero x within below = refl
none_among (y ∷ ys) zero x within below = refl
none_among xs (suc i) x within below =
    let one : suc i ≡ i + 1 = omega arith in
    let apart : get_or xs i 0 ≡ x → ⊥ = λ same. omega (arith, below i (omega arith), same) in
    ap (λ n. is_among (take n xs) x) one
    ∙ list_any_more (λ y. y == x) xs i 0 (omega arith)
    ∙ or_from (is_among (take i xs) x) (get_or xs i 0 == x)
    (none_among xs i x (omega arith) (λ k lower. below k (omega arith))) (ne_eqb (get_or xs i 0) x apart)

-- the number before is one of the earlier ones
pub last_among : (xs : List ℕ) (i x : ℕ) → 1 ≤ i → i ≤ length xs → get_or xs (i - 1) 0 ≡ x → is_among (take i xs) x ≡ true
last_among xs i x some within same =
    list_any_at (λ y. y == x) (take i xs) (i - 1) 0 (omega (arith, length-take-le i xs within))
    (eq-eqb (get_or (take i xs) (i - 1) 0) x (get_or-take i xs (i - 1) 0 (omega arith) ∙ same))

-- a sorted number is at least the one before it
pub no_less : (xs : List ℕ) (i : ℕ) → IsSorted nat_cmp xs → 1 ≤ i → i < length xs → get_or xs (i - 1) 0 ≤ get_or xs i 0
no_less xs i sorted some within =
    let next : i - 1 + 1 ≡ i = omega arith in
    ⊎_elim
    (λ (lower : get_or xs i 0 < get_or xs (i - 1) 0).
    absurd (both_ways (is_lt (nat_cmp (get_or xs i 0) (get_or xs (i - 1) 0)))
    (ap (λ j. is_lt (nat_cmp (get_or xs j 0) (get_or xs (i - 1) 0))) (sym next) ∙ sorted (i - 1) 0 (omega arith) (omega arith))
    (ap is_lt (less (get_or xs i 0) (get_or xs (i - 1) 0) lower))))
    (λ (higher : get_or xs (i - 1) 0 ≤ get_or xs i 0). higher)
    (cases_lt (get_or xs i 0) (get_or xs (i - 1) 0))
  where
    less : (x y : ℕ) → x < y → nat_cmp x y ≡ Less
    less x y lower = rw (lt-ltb x y lower) refl
