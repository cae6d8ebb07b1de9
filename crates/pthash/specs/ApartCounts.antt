-- Counting in lists: what comes at most once is distinct, and the numbers that a list of distinct ones holds.
use Rattle.std.specs.Prelude.{◌≡◌, ℕ, zero, suc, ◌+◌, ◌<◌, ◌≤◌, Bool, true, false, not, ◌&&◌, ◌||◌, ◌==◌, cond, nat_lt}
use Rattle.std.specs.Prelude.{List, [], ◌∷◌, ◌++◌, length, map, filter, count_by, slice_index_or}
use Rattle.std.specs.List.{list_any, list_all}
use Rattle.std.proofs.Common.{refl, sym, ap, ◌∙◌, subst, arith, ⊎_elim}
use Rattle.std.proofs.lemmas.Bool.{and_parts, and_from, not_from_false, not-true, or_parts, cases_lt, cases_eq, eq-eqb, eqb-true, ne_eqb, ltb-true}
use Rattle.std.proofs.lemmas.List.Sums.{sum_by-cons, sum_by-append, sum_by_push, get_or-le-sum_by, length-filter}
use Rattle.pthash.specs.Order.{numbers_below}
use Rattle.pthash.specs.Search.{is_among, is_distinct}

-- one where the test passes
abbrev pub one_if : Bool → ℕ
one_if b = cond b 1 0

-- the count with one element more
pub count_by-cons : {A : Type 0} (test : A → Bool) (x : A) (xs : List A) → count_by test (x ∷ xs) ≡ one_if (test x) + count_by test xs
count_by-cons {A} test x xs = sum_by-cons (λ (y : A). one_if (test y)) x xs

-- the count over two lists
pub count_by-append : {A : Type 0} (test : A → Bool) (xs ys : List A) → count_by test (xs ++ ys) ≡ count_by test xs + count_by test ys
count_by-append {A} test xs ys = sum_by-append (λ (y : A). one_if (test y)) xs ys

-- the count with one element more at the end
pub count_by-push : {A : Type 0} (test : A → Bool) (xs : List A) (x : A) → count_by test (xs ++ x ∷ []) ≡ count_by test xs + one_if (test x)
count_by-push {A} test xs x = sum_by_push (λ (y : A). one_if (test y)) xs x

-- elements that each pass one of two tests, and never both
pub count_by-either : {A : Type 0} (test first second : A → Bool) → ((x : A) → one_if (test x) ≡ one_if (first x) + one_if (second x)) →
    (xs : List A) → count_by test xs ≡ count_by first xs + count_by second xs
count_by-either test first second split [] = refl
count_by-either test first second split (x ∷ xs) =
    let rest : count_by test xs ≡ count_by first xs + count_by second xs = count_by-either test first second split xs in
    let here : one_if (test x) ≡ one_if (first x) + one_if (second x) = split x in
    omega (arith, count_by-cons test x xs, count_by-cons first x xs, count_by-cons second x xs)

-- the count of images
pub count_by-map : {A B : Type 0} (test : B → Bool) (f : A → B) (xs : List A) → count_by test (map f xs) ≡ count_by (λ x. test (f x)) xs
count_by-map test f [] = refl
count_by-map test f (x ∷ xs) =
    count_by-cons test (f x) (map f xs) ∙ ap (λ n. one_if (test (f x)) + n) (count_by-map test f xs) ∙ sym (count_by-cons (λ y. test (f y)) x xs)

-- the count of what passes another test
pub count_by-filter : {A : Type 0} (test inside : A → Bool) (xs : List A) → count_by test (filter inside xs) ≡ count_by (λ x. inside x && test x) xs
count_by-filter test inside [] = refl
count_by-filter test inside (x ∷ xs) =
    elim (inside x) as (λ b. count_by test (cond b (x ∷ filter inside xs) (filter inside xs)) ≡
    one_if (b && test x) + count_by (λ y. inside y && test y) xs) [
      | true ↦ count_by-cons test x (filter inside xs) ∙ ap (λ n. one_if (test x) + n) (count_by-filter test inside xs)
      | false ↦ count_by-filter test inside xs ∙ omega arith
    ]
    ∙ sym (count_by-cons (λ y. inside y && test y) x xs)

-- each element passes
pub count_by-all : {A : Type 0} (xs : List A) → count_by (λ x. true) xs ≡ length xs
count_by-all [] = refl
count_by-all (x ∷ xs) = count_by-cons (λ y. true) x xs ∙ omega (arith, count_by-all xs)

-- no element passes
pub count_by-none : {A : Type 0} (test : A → Bool) (xs : List A) → list_any test xs ≡ false → count_by test xs ≡ 0
count_by-none test [] none = refl
count_by-none test (x ∷ xs) none =
    let parts = or_parts (test x) (list_any test xs) none in
    let rest : count_by test xs ≡ 0 = count_by-none test xs parts.1 in
    count_by-cons test x xs ∙ rw (parts.0, rest) refl

-- where none is counted, no element passes
pub none_counted : {A : Type 0} (test : A → Bool) (xs : List A) → count_by test xs ≡ 0 → list_any test xs ≡ false
none_counted test [] none = refl
none_counted test (x ∷ xs) none =
    elim (test x) as (λ b. one_if b + count_by test xs ≡ 0 → (b || list_any test xs) ≡ false) [
      | true ↦ λ some. absurd (omega arith)
      | false ↦ λ rest. none_counted test xs (omega arith)
    ] (sym (count_by-cons test x xs) ∙ none)

-- a filter keeps some where one passes
pub filter_has_some : {A : Type 0} (test : A → Bool) (xs : List A) (i : ℕ) (d : A) → i < length xs → test (slice_index_or xs i d) ≡ true →
    0 < length (filter test xs)
filter_has_some {A} test xs i d within passes =
    let counted : one_if (test (slice_index_or xs i d)) ≤ count_by test xs = get_or-le-sum_by (λ (x : A). one_if (test x)) xs i d within in
    let some : 1 ≤ count_by test xs = subst (λ b. one_if b ≤ count_by test xs) passes counted in
    omega (arith, length-filter test xs)

-- how often a number comes in a list
abbrev pub count_of : ℕ → List ℕ → ℕ
count_of p xs = count_by (λ x. x == p) xs

-- numbers are distinct where each comes at most once
pub is_distinct-counted : (xs : List ℕ) → ((p : ℕ) → count_of p xs ≤ 1) → is_distinct xs ≡ true
is_distinct-counted [] once = refl
is_distinct-counted (x ∷ xs) once =
    let same : (x == x) ≡ true = eq-eqb x x refl in
    let here : count_of x (x ∷ xs) ≡ one_if (x == x) + count_of x xs = count_by-cons (λ y. y == x) x xs in
    let whole : count_of x (x ∷ xs) ≡ 1 + count_of x xs = here ∙ rw same refl in
    let none : count_of x xs ≡ 0 = omega (arith, once x) in
    and_from (not (is_among xs x)) (is_distinct xs) (not_from_false (is_among xs x) (none_counted (λ y. y == x) xs none))
    (is_distinct-counted xs (λ p. omega (arith, once p, count_by-cons (λ y. y == p) x xs)))

-- each of some distinct numbers comes at most once
pub count_of-distinct : (xs : List ℕ) → is_distinct xs ≡ true → (p : ℕ) → count_of p xs ≤ 1
count_of-distinct [] distinct p = omega arith
count_of-distinct (x ∷ xs) distinct p =
    let parts = and_parts (not (is_among xs x)) (is_distinct xs) distinct in
    let rest : count_of p xs ≤ 1 = count_of-distinct xs parts.1 p in
    let whole : count_of p (x ∷ xs) ≡ one_if (x == p) + count_of p xs = count_by-cons (λ y. y == p) x xs in
    elim (x == p) as (λ b. (x == p) ≡ b → count_of p (x ∷ xs) ≡ one_if b + count_of p xs → count_of p (x ∷ xs) ≤ 1) [
      | true ↦ λ same more.
          let here : x ≡ p = eqb-true x p same in
          let none : count_of x xs ≡ 0 = count_by-none (λ y. y == x) xs (not-true (is_among xs x) parts.0) in
          let none_too : count_of p xs ≡ 0 = subst (λ q. count_of q xs ≡ 0) here none in
          omega arith
      | false ↦ λ other more. omega arith
    ] refl whole

-- none of the numbers below n is n or more
count_of-past : (n p : ℕ) → n ≤ p → count_of p (numbers_below n) ≡ 0
unfolding numbers_below
count_of-past zero p past = refl
count_of-past (suc n) p past =
    let rest : count_of p (numbers_below n) ≡ 0 = count_of-past n p (omega arith) in
    let other : (n == p) ≡ false = ne_eqb n p (λ same. omega arith) in
    count_by-append (λ x. x == p) (numbers_below n) (n ∷ []) ∙ rw (rest, other) refl

-- each of them comes once
pub count_of-numbers_below : (n p : ℕ) → p < n → count_of p (numbers_below n) ≡ 1
unfolding numbers_below
count_of-numbers_below zero p below = absurd (omega arith)
count_of-numbers_below (suc n) p below =
    count_by-append (λ x. x == p) (numbers_below n) (n ∷ [])
    ∙ ⊎_elim
    (λ (lower : p < n).
    let other : (n == p) ≡ false = ne_eqb n p (λ same. omega arith) in
    rw (count_of-numbers_below n p lower, other) refl)
    (λ (last : n ≤ p).
    let same : (n == p) ≡ true = eq-eqb n p (omega arith) in
    rw (count_of-past n p last, same) refl)
    (cases_lt p n)

-- of the numbers below n, as many are in a list of distinct ones below n as it has
pub count_by-among : (xs : List ℕ) (n : ℕ) → is_distinct xs ≡ true → list_all (λ x. nat_lt x n) xs ≡ true →
    count_by (is_among xs) (numbers_below n) ≡ length xs
count_by-among [] n distinct below = count_by-none (is_among []) (numbers_below n) (no_one (numbers_below n))
  where
    no_one : (ps : List ℕ) → list_any (is_among []) ps ≡ false
    no_one [] = refl
    no_one (p ∷ ps) = no_one ps
count_by-among (x ∷ xs) n distinct below =
    let parts = and_parts (not (is_among xs x)) (is_distinct xs) distinct in
    let lower = and_parts (nat_lt x n) (list_all (λ y. nat_lt y n) xs) below in
    let rest : count_by (is_among xs) (numbers_below n) ≡ length xs = count_by-among xs n parts.1 lower.1 in
    let once : count_of x (numbers_below n) ≡ 1 = count_of-numbers_below n x (ltb-true x n lower.0) in
    let split : (p : ℕ) → one_if (is_among (x ∷ xs) p) ≡ one_if (p == x) + one_if (is_among xs p) =
    λ p. either x p (is_among xs p) (λ same. subst (λ q. is_among xs q ≡ false) same (not-true (is_among xs x) parts.0)) in
    count_by-either (is_among (x ∷ xs)) (λ p. p == x) (is_among xs) split (numbers_below n) ∙ omega arith
  where
    either : (x p : ℕ) (b : Bool) → (x ≡ p → b ≡ false) → one_if (x == p || b) ≡ one_if (p == x) + one_if b
    either x p b apart =
        ⊎_elim
        (λ (same : x ≡ p). rw (eq-eqb x p same, eq-eqb p x (sym same), apart same) refl)
        (λ (other : x ≡ p → ⊥). rw (ne_eqb x p other, ne_eqb p x (λ e. other (sym e))) (omega arith))
        (cases_eq x p)
