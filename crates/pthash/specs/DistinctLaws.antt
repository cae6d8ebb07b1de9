-- Lists of numbers in which none comes twice.
use Rattle.std.specs.Prelude.{◌≡◌, ◌≢◌, ℕ, zero, suc, ◌<◌, Bool, true, false, cond}
use Rattle.std.specs.Prelude.{not, ◌||◌, ◌==◌, List, [], ◌∷◌, ◌++◌, length, filter, slice_index}
use Rattle.std.specs.List.{list_all}
use Rattle.std.proofs.Common.{refl, sym, ap, ◌∙◌, arith}
use Rattle.std.proofs.Math.Bool.{or-true}
use Rattle.std.proofs.lemmas.Bool.{and_parts, and_from, or_from, not-true, not_from_false, eqb-true, eqb-false, eq-eqb, ne_eqb, false_from_ne_true}
use Rattle.std.proofs.lemmas.List.Folds.{list_any-append}
use Rattle.pthash.specs.Order.{numbers_below}
use Rattle.pthash.specs.Search.{is_among, is_distinct}

-- what all numbers pass, each of them passes
pub list_all-among : (test : ℕ → Bool) (xs : List ℕ) (x : ℕ) → list_all test xs ≡ true → is_among xs x ≡ true → test x ≡ true
list_all-among test [] x pass among = absurd cc
list_all-among test (y ∷ ys) x pass among =
    let parts = and_parts (test y) (list_all test ys) pass in
    elim (y == x) as (λ b. (y == x) ≡ b → (b || is_among ys x) ≡ true → test x ≡ true) [
      | true ↦ λ same rest. ap test (sym (eqb-true y x same)) ∙ parts.0
      | false ↦ λ other rest. list_all-among test ys x parts.1 rest
    ] refl among

-- a number that is among others stands at a place
pub place_among : (xs : List ℕ) (x : ℕ) → is_among xs x ≡ true → (i : ℕ) × (i < length xs) × (slice_index xs i ≡ x)
place_among [] x among = absurd cc
place_among (y ∷ ys) x among =
    elim (y == x) as (λ b. (y == x) ≡ b → (b || is_among ys x) ≡ true → (i : ℕ) × (i < suc (length ys)) × (slice_index (y ∷ ys) i ≡ x)) [
      | true ↦ λ same rest. (0, omega arith, eqb-true y x same)
      | false ↦ λ other rest. let at = place_among ys x rest in let within = at.1 in (suc at.0, omega arith, at.2)
    ] refl among

-- what stands at a place is among the numbers
pub is_among-at : (xs : List ℕ) (i : ℕ) → i < length xs → is_among xs (slice_index xs i) ≡ true
is_among-at [] i within = absurd (omega arith)
is_among-at (y ∷ ys) zero within = rw (eq-eqb y y refl) refl
is_among-at (y ∷ ys) (suc i) within =
    elim (y == slice_index ys i) as (λ b. (b || is_among ys (slice_index ys i)) ≡ true) [
      | true ↦ refl
      | false ↦ is_among-at ys i (omega arith)
    ]

-- a number before others hides none of them
among_more : (y : ℕ) (ys : List ℕ) (x : ℕ) → is_among ys x ≡ true → is_among (y ∷ ys) x ≡ true
among_more y ys x among =
    elim (y == x) as (λ b. (b || is_among ys x) ≡ true) [
      | true ↦ refl
      | false ↦ among
    ]

-- what passes a filter was there and passes the test
pub is_among-filter : (test : ℕ → Bool) (xs : List ℕ) (x : ℕ) → is_among (filter test xs) x ≡ true → (is_among xs x ≡ true) × (test x ≡ true)
is_among-filter test [] x among = absurd cc
is_among-filter test (y ∷ ys) x among =
    elim (test y) as (λ b. test y ≡ b → is_among (cond b (y ∷ filter test ys) (filter test ys)) x ≡ true →
    (is_among (y ∷ ys) x ≡ true) × (test x ≡ true)) [
      | true ↦ λ passes kept.
          elim (y == x) as (λ b. (y == x) ≡ b → (b || is_among (filter test ys) x) ≡ true → ((b || is_among ys x) ≡ true) × (test x ≡ true)) [
            | true ↦ λ same rest. (refl, ap test (sym (eqb-true y x same)) ∙ passes)
            | false ↦ λ other rest. is_among-filter test ys x rest
          ] refl kept
      | false ↦ λ fails kept.
          let rest = is_among-filter test ys x kept in
          (among_more y ys x rest.0, rest.1)
    ] refl among

-- what is there and passes the test passes the filter
pub is_among-filter_from : (test : ℕ → Bool) (xs : List ℕ) (x : ℕ) → is_among xs x ≡ true → test x ≡ true →
    is_among (filter test xs) x ≡ true
is_among-filter_from test [] x among passes = absurd cc
is_among-filter_from test (y ∷ ys) x among passes =
    elim (y == x) as (λ b. (y == x) ≡ b → (b || is_among ys x) ≡ true → is_among (filter test (y ∷ ys)) x ≡ true) [
      | true ↦ λ same rest.
          let here : test y ≡ true = ap test (eqb-true y x same) ∙ passes in
          rw here (rw same refl)
      | false ↦ λ other rest.
          let later = is_among-filter_from test ys x rest passes in
          elim (test y) as (λ b. is_among (cond b (y ∷ filter test ys) (filter test ys)) x ≡ true) [
            | true ↦ among_more y (filter test ys) x later
            | false ↦ later
          ]
    ] refl among

-- a filter keeps the numbers distinct
pub is_distinct-filter : (test : ℕ → Bool) (xs : List ℕ) → is_distinct xs ≡ true → is_distinct (filter test xs) ≡ true
is_distinct-filter test [] distinct = refl
is_distinct-filter test (x ∷ xs) distinct =
    let parts = and_parts (not (is_among xs x)) (is_distinct xs) distinct in
    let rest = is_distinct-filter test xs parts.1 in
    let absent : is_among (filter test xs) x ≡ false =
    false_from_ne_true (is_among (filter test xs) x)
    (λ kept. let there = (is_among-filter test xs x kept).0 in let none = not-true (is_among xs x) parts.0 in absurd cc) in
    elim (test x) as (λ b. is_distinct (cond b (x ∷ filter test xs) (filter test xs)) ≡ true) [
      | true ↦ and_from (not (is_among (filter test xs) x)) (is_distinct (filter test xs)) (not_from_false (is_among (filter test xs) x) absent) rest
      | false ↦ rest
    ]

-- distinct numbers after distinct others, none of which is among them
pub is_distinct-append_apart : (xs ys : List ℕ) → is_distinct xs ≡ true → is_distinct ys ≡ true
    → ((x : ℕ) → is_among xs x ≡ true → is_among ys x ≡ false) → is_distinct (xs ++ ys) ≡ true
is_distinct-append_apart [] ys first second apart = second
is_distinct-append_apart (x ∷ xs) ys first second apart =
    let parts = and_parts (not (is_among xs x)) (is_distinct xs) first in
    let other : is_among ys x ≡ false = apart x (rw (eq-eqb x x refl) refl) in
    let absent : is_among (xs ++ ys) x ≡ false =
    list_any-append (λ y. y == x) xs ys ∙ or_from (is_among xs x) (is_among ys x) (not-true (is_among xs x) parts.0) other in
    and_from (not (is_among (xs ++ ys) x)) (is_distinct (xs ++ ys)) (not_from_false (is_among (xs ++ ys) x) absent)
    (is_distinct-append_apart xs ys parts.1 second (λ y among. apart y (among_more x xs y among)))

-- distinct numbers at two places differ
pub is_distinct-at : (xs : List ℕ) (i j : ℕ) → is_distinct xs ≡ true → i < j → j < length xs → slice_index xs i ≢ slice_index xs j
is_distinct-at [] i j distinct before within = absurd (omega arith)
is_distinct-at (x ∷ xs) i zero distinct before within = absurd (omega arith)
is_distinct-at (x ∷ xs) zero (suc j) distinct before within =
    let parts = and_parts (not (is_among xs x)) (is_distinct xs) distinct in
    let none = not-true (is_among xs x) parts.0 in
    λ same.
    let there : is_among xs x ≡ true = ap (is_among xs) same ∙ is_among-at xs j (omega arith) in
    absurd cc
is_distinct-at (x ∷ xs) (suc i) (suc j) distinct before within =
    let parts = and_parts (not (is_among xs x)) (is_distinct xs) distinct in
    is_distinct-at xs i j parts.1 (omega arith) (omega arith)

-- the numbers below n are below n
pub is_among-numbers_below : (n k : ℕ) → is_among (numbers_below n) k ≡ true → k < n
unfolding numbers_below
is_among-numbers_below zero k among = absurd cc
is_among-numbers_below (suc n) k among =
    let either : (is_among (numbers_below n) k || is_among (n ∷ []) k) ≡ true =
    sym (list_any-append (λ y. y == k) (numbers_below n) (n ∷ [])) ∙ among in
    elim (is_among (numbers_below n) k) as (λ b. is_among (numbers_below n) k ≡ b → (b || is_among (n ∷ []) k) ≡ true → k < suc n) [
      | true ↦ λ lower rest. let below = is_among-numbers_below n k lower in omega arith
      | false ↦ λ other rest. elim (n == k) as (λ b. (n == k) ≡ b → (b || false) ≡ true → k < suc n) [
        | true ↦ λ same last. let here : n ≡ k = eqb-true n k same in omega arith
        | false ↦ λ same none. absurd cc
      ] refl rest
    ] refl either

-- each number below n is among them
pub numbers_below-has : (n k : ℕ) → k < n → is_among (numbers_below n) k ≡ true
unfolding numbers_below
numbers_below-has zero k below = absurd (omega arith)
numbers_below-has (suc n) k below =
    list_any-append (λ y. y == k) (numbers_below n) (n ∷ [])
    ∙ elim (n == k) as (λ b. (n == k) ≡ b → (is_among (numbers_below n) k || (b || false)) ≡ true) [
      | true ↦ λ same. or-true (is_among (numbers_below n) k)
      | false ↦ λ other.
          let differ : n ≢ k = eqb-false n k other in
          let lower : is_among (numbers_below n) k ≡ true = numbers_below-has n k (omega arith) in
          rw lower refl
    ] refl

-- they are distinct
pub is_distinct-numbers_below : (n : ℕ) → is_distinct (numbers_below n) ≡ true
unfolding numbers_below
is_distinct-numbers_below zero = refl
is_distinct-numbers_below (suc n) =
    is_distinct-append_apart (numbers_below n) (n ∷ []) (is_distinct-numbers_below n) refl
    (λ k lower. rw (ne_eqb n k (let below = is_among-numbers_below n k lower in λ e. omega arith)) refl)
