-- Lists whose items have a class, a number.
use Rattle.std.specs.Prelude.{◌≡◌, ℕ, zero, suc, ◌+◌, ◌<◌, ◌≤◌, Bool, true, false}
use Rattle.std.specs.Prelude.{cond, ◌==◌, List, [], ◌∷◌, length, map, filter, sum_by, All}
use Rattle.std.proofs.Common.{inl, inr, refl, arith}
use Rattle.std.proofs.lemmas.Bool.{cases_lt, eq-eqb, ne_eqb}
use Rattle.std.proofs.lemmas.List.Elements.{All-head, All-tail}
use Rattle.std.proofs.lemmas.List.Sums.{sum_by-cons, sum_by_push}
use Rattle.pthash.specs.Order.{numbers_below}

-- functions that agree have the same sum
pub sum_by-same : (f g : ℕ → ℕ) → ((k : ℕ) → f k ≡ g k) → (ks : List ℕ) → sum_by f ks ≡ sum_by g ks
sum_by-same f g same [] = refl
sum_by-same f g same (k ∷ ks) =
    omega (arith, sum_by-cons f k ks, sum_by-cons g k ks, same k, sum_by-same f g same ks)

-- the sum over what a list is mapped to
pub sum_by-map : {A B : Type 0} (g : B → ℕ) (f : A → B) (xs : List A) → sum_by g (map f xs) ≡ sum_by (λ x. g (f x)) xs
sum_by-map g f [] = refl
sum_by-map g f (x ∷ xs) = omega (arith, sum_by-cons g (f x) (map f xs), sum_by-cons (λ x. g (f x)) x xs, sum_by-map g f xs)

-- zeros add up to zero
pub sum_by-none : (f : ℕ → ℕ) → ((k : ℕ) → f k ≡ 0) → (ks : List ℕ) → sum_by f ks ≡ 0
sum_by-none f none [] = refl
sum_by-none f none (k ∷ ks) = omega (arith, sum_by-cons f k ks, none k, sum_by-none f none ks)

-- the sum of sums
pub sum_by-plus : (f g h : ℕ → ℕ) → ((k : ℕ) → f k ≡ g k + h k) → (ks : List ℕ) → sum_by f ks ≡ sum_by g ks + sum_by h ks
sum_by-plus f g h is [] = refl
sum_by-plus f g h is (k ∷ ks) =
    omega (arith, sum_by-cons f k ks, sum_by-cons g k ks, sum_by-cons h k ks, is k, sum_by-plus f g h is ks)

-- one for each number that is c
abbrev is_one : ℕ → ℕ → ℕ
is_one c k = cond (c == k) 1 0

-- no number from n on is one below n
no_such : (c n : ℕ) → n ≤ c → sum_by (is_one c) (numbers_below n) ≡ 0
unfolding numbers_below
no_such c zero high = refl
no_such c (suc n) high =
    let other : is_one c n ≡ 0 = rw (ne_eqb c n (λ e. omega arith)) refl in
    let more : sum_by (is_one c) (numbers_below (suc n)) ≡ sum_by (is_one c) (numbers_below n) + is_one c n = sum_by_push (is_one c) (numbers_below n) n in
    omega (arith, no_such c n (omega arith))

-- a number below n is one of those below n
one_such : (c n : ℕ) → c < n → sum_by (is_one c) (numbers_below n) ≡ 1
unfolding numbers_below
one_such c zero low = absurd (omega arith)
one_such c (suc n) low =
    let more : sum_by (is_one c) (numbers_below (suc n)) ≡ sum_by (is_one c) (numbers_below n) + is_one c n = sum_by_push (is_one c) (numbers_below n) n in
    elim (cases_lt c n) [
      | inl lower ↦
          let other : is_one c n ≡ 0 = rw (ne_eqb c n (λ e. omega arith)) refl in
          omega (arith, one_such c n lower)
      | inr last ↦
          let same : c ≡ n = omega arith in
          let here : is_one c n ≡ 1 = rw (eq-eqb c n same) refl in
          omega (arith, no_such c n last)
    ]

-- one more item is one more of its class
length-filter-cons : {A : Type 0} (test : A → Bool) (x : A) (xs : List A) → length (filter test (x ∷ xs)) ≡ cond (test x) 1 0 + length (filter test xs)
length-filter-cons test x xs =
    elim (test x) as (λ b. length (cond b (x ∷ filter test xs) (filter test xs)) ≡ cond b 1 0 + length (filter test xs)) [
      | true ↦ omega arith
      | false ↦ omega arith
    ]

-- the classes below m have all items, if each item's class is below m
pub length-classes : {A : Type 0} (class : A → ℕ) (m : ℕ) (xs : List A) → All (λ x. class x < m) xs
    → sum_by (λ k. length (filter (λ x. class x == k) xs)) (numbers_below m) ≡ length xs
length-classes class m [] within = sum_by-none (λ k. 0) (λ k. refl) (numbers_below m)
length-classes {A = A} class m (x ∷ xs) within =
    let here : class x < m = All-head (λ (x : A). class x < m) x xs within in
    let rest = length-classes class m xs (All-tail (λ (x : A). class x < m) x xs within) in
    let both = sum_by-plus (λ k. length (filter (λ x. class x == k) (x ∷ xs))) (is_one (class x)) (λ k. length (filter (λ x. class x == k) xs))
    (λ k. length-filter-cons (λ x. class x == k) x xs) (numbers_below m) in
    omega (arith, one_such (class x) m here)
