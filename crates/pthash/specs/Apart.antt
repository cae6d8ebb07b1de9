-- Lists of which no element belongs together with a later one, by a test.
use Rattle.std.specs.Prelude.{◌≡◌, ℕ, zero, suc, ◌<◌, Bool, true, false, not, ◌&&◌}
use Rattle.std.specs.Prelude.{◌||◌, ◌==◌, cond, nat_lt, List, [], ◌∷◌, length, map}
use Rattle.std.specs.Prelude.{filter, slice_index_or}
use Rattle.std.specs.List.{list_any, list_all}
use Rattle.std.proofs.Common.{refl, sym, ap, ◌∙◌, subst, arith}
use Rattle.std.proofs.lemmas.Bool.{and_parts, and_from, not_from_false, not-true, or_from, or_parts, eq-eqb, eqb-true, eqb-false}
use Rattle.std.proofs.lemmas.Bool.{false_from_ne_true, both_ways, ltb-true}
use Rattle.pthash.specs.Search.{is_among, is_distinct}

-- nothing in the tail passes the test of the head, and so on from there
abbrev pub are_apart : {A : Type 0} → (A → A → Bool) → List A → Bool
are_apart test [] = true
are_apart test (x ∷ xs) = not (list_any (test x) xs) && are_apart test xs

-- two tests of which the first passes only what the second passes
abbrev pub PassesLess : {A : Type 0} → (A → A → Bool) → (A → A → Bool) → Type 0
PassesLess {A} test larger = (x y : A) → larger x y ≡ false → test x y ≡ false

-- what fails the larger test fails the smaller
none_of_less : {A : Type 0} (test larger : A → A → Bool) → PassesLess test larger → (x : A) (ys : List A) →
    list_any (larger x) ys ≡ false → list_any (test x) ys ≡ false
none_of_less test larger less x [] none = refl
none_of_less test larger less x (y ∷ ys) none =
    let parts = or_parts (larger x y) (list_any (larger x) ys) none in
    or_from (test x y) (list_any (test x) ys) (less x y parts.0) (none_of_less test larger less x ys parts.1)

-- what a test that passes more leaves apart, one that passes less does too
pub are_apart-less : {A : Type 0} (test larger : A → A → Bool) → PassesLess test larger → (xs : List A) →
    are_apart larger xs ≡ true → are_apart test xs ≡ true
are_apart-less test larger less [] apart = refl
are_apart-less test larger less (x ∷ xs) apart =
    let parts = and_parts (not (list_any (larger x) xs)) (are_apart larger xs) apart in
    and_from (not (list_any (test x) xs)) (are_apart test xs)
    (not_from_false (list_any (test x) xs) (none_of_less test larger less x xs (not-true (list_any (larger x) xs) parts.0)))
    (are_apart-less test larger less xs parts.1)

-- a number is among the images where an element has it as its image
any_of_map : {A : Type 0} (f : A → ℕ) (n : ℕ) (xs : List A) → is_among (map f xs) n ≡ list_any (λ x. f x == n) xs
any_of_map f n [] = refl
any_of_map f n (x ∷ xs) = ap (λ b. f x == n || b) (any_of_map f n xs)

-- images are distinct where no two elements have the same
pub is_distinct-map : {A : Type 0} (f : A → ℕ) (xs : List A) → is_distinct (map f xs) ≡ are_apart (λ x y. f y == f x) xs
is_distinct-map f [] = refl
is_distinct-map f (x ∷ xs) =
    ap (λ b. not b && is_distinct (map f xs)) (any_of_map f (f x) xs)
    ∙ ap (λ b. not (list_any (λ y. f y == f x) xs) && b) (is_distinct-map f xs)

-- by images: where they are distinct, and the test passes only elements with the same image
pub are_apart-by_images : {A : Type 0} (test : A → A → Bool) (f : A → ℕ) → ((x y : A) → test x y ≡ true → f x ≡ f y) →
    (xs : List A) → is_distinct (map f xs) ≡ true → are_apart test xs ≡ true
are_apart-by_images test f same xs distinct =
    are_apart-less test (λ x y. f y == f x)
    (λ x y differ. false_from_ne_true (test x y) (λ passes. eqb-false (f y) (f x) differ (sym (same x y passes))))
    xs (sym (is_distinct-map f xs) ∙ distinct)

-- the images under the function that changes nothing
map_id : (xs : List ℕ) → map (λ x. x) xs ≡ xs
map_id [] = refl
map_id (x ∷ xs) = ap (λ ys. x ∷ ys) (map_id xs)

-- numbers are distinct where they are apart by their equality
pub is_distinct-are_apart : (xs : List ℕ) → is_distinct xs ≡ are_apart (λ x y. y == x) xs
is_distinct-are_apart xs = sym (ap is_distinct (map_id xs)) ∙ is_distinct-map (λ x. x) xs

-- numbers are distinct where their images are
pub is_distinct-from_map : (f : ℕ → ℕ) (xs : List ℕ) → is_distinct (map f xs) ≡ true → is_distinct xs ≡ true
is_distinct-from_map f xs distinct =
    is_distinct-are_apart xs ∙ are_apart-by_images (λ x y. y == x) f (λ x y same. ap f (sym (eqb-true y x same))) xs distinct

-- images of numbers of which one comes twice aren't distinct
pub is_distinct-map_of_repeat : (f : ℕ → ℕ) (xs : List ℕ) → is_distinct xs ≡ false → is_distinct (map f xs) ≡ false
is_distinct-map_of_repeat f xs twice =
    false_from_ne_true (is_distinct (map f xs)) (λ distinct. both_ways (is_distinct xs) twice (is_distinct-from_map f xs distinct))

-- where none passes, the one at a place fails
none_at : {A : Type 0} (test : A → Bool) (xs : List A) (k : ℕ) (d : A) → list_any test xs ≡ false → k < length xs →
    test (slice_index_or xs k d) ≡ false
none_at test [] k d none within = absurd (omega arith)
none_at test (x ∷ xs) zero d none within = (or_parts (test x) (list_any test xs) none).0
none_at test (x ∷ xs) (suc k) d none within = none_at test xs k d (or_parts (test x) (list_any test xs) none).1 (omega arith)

-- at two places: an element doesn't belong together with a later one
pub are_apart-at : {A : Type 0} (test : A → A → Bool) (xs : List A) (i j : ℕ) (d : A) → are_apart test xs ≡ true → i < j → j < length xs →
    test (slice_index_or xs i d) (slice_index_or xs j d) ≡ false
are_apart-at test [] i j d apart before within = absurd (omega arith)
are_apart-at test (x ∷ xs) i zero d apart before within = absurd (omega arith)
are_apart-at test (x ∷ xs) zero (suc j) d apart before within =
    none_at (test x) xs j d (not-true (list_any (test x) xs) (and_parts (not (list_any (test x) xs)) (are_apart test xs) apart).0) (omega arith)
are_apart-at test (x ∷ xs) (suc i) (suc j) d apart before within =
    are_apart-at test xs i j d (and_parts (not (list_any (test x) xs)) (are_apart test xs) apart).1 (omega arith) (omega arith)

-- what fails a test in the class that the test stays in fails it everywhere
none_by_class : {A : Type 0} (test : A → Bool) (class : A → ℕ) (k : ℕ) → ((y : A) → test y ≡ true → class y ≡ k) → (ys : List A) →
    list_any test (filter (λ y. class y == k) ys) ≡ false → list_any test ys ≡ false
none_by_class test class k stays [] none = refl
none_by_class test class k stays (y ∷ ys) none =
    elim (class y == k) as (λ b. (class y == k) ≡ b →
    list_any test (cond b (y ∷ filter (λ z. class z == k) ys) (filter (λ z. class z == k) ys)) ≡ false →
    (test y || list_any test ys) ≡ false) [
      | true ↦ λ same fails.
          let parts = or_parts (test y) (list_any test (filter (λ z. class z == k) ys)) fails in
          or_from (test y) (list_any test ys) parts.0 (none_by_class test class k stays ys parts.1)
      | false ↦ λ other fails.
          or_from (test y) (list_any test ys)
          (false_from_ne_true (test y) (λ passes. eqb-false (class y) k other (stays y passes)))
          (none_by_class test class k stays ys fails)
    ] refl none

-- the elements inside are apart without the head where they are with it
class_of_tail : {A : Type 0} (test : A → A → Bool) (inside : A → Bool) (x : A) (xs : List A) →
    are_apart test (filter inside (x ∷ xs)) ≡ true → are_apart test (filter inside xs) ≡ true
class_of_tail test inside x xs apart =
    elim (inside x) as (λ b. are_apart test (cond b (x ∷ filter inside xs) (filter inside xs)) ≡ true → are_apart test (filter inside xs) ≡ true) [
      | true ↦ λ both. (and_parts (not (list_any (test x) (filter inside xs))) (are_apart test (filter inside xs)) both).1
      | false ↦ λ same. same
    ] apart

-- by class: where the test passes only elements of one class, and each class's elements are apart
pub are_apart-by_class : {A : Type 0} (test : A → A → Bool) (class : A → ℕ) (m : ℕ) → ((x y : A) → test x y ≡ true → class x ≡ class y) →
    (xs : List A) → list_all (λ x. nat_lt (class x) m) xs ≡ true →
    ((k : ℕ) → k < m → are_apart test (filter (λ x. class x == k) xs) ≡ true) →
    are_apart test xs ≡ true
are_apart-by_class test class m stays [] below each = refl
are_apart-by_class {A} test class m stays (x ∷ xs) below each =
    let parts = and_parts (nat_lt (class x) m) (list_all (λ y. nat_lt (class y) m) xs) below in
    let inside : A → Bool = λ y. class y == class x in
    let here : inside x ≡ true = eq-eqb (class x) (class x) refl in
    let own : are_apart test (x ∷ filter inside xs) ≡ true =
    subst (λ b. are_apart test (cond b (x ∷ filter inside xs) (filter inside xs)) ≡ true) here (each (class x) (ltb-true (class x) m parts.0)) in
    let none : list_any (test x) (filter inside xs) ≡ false =
    not-true (list_any (test x) (filter inside xs)) (and_parts (not (list_any (test x) (filter inside xs))) (are_apart test (filter inside xs)) own).0 in
    and_from (not (list_any (test x) xs)) (are_apart test xs)
    (not_from_false (list_any (test x) xs) (none_by_class (test x) class (class x) (λ y passes. sym (stays x y passes)) xs none))
    (are_apart-by_class test class m stays xs parts.1 (λ k lower. class_of_tail test (λ y. class y == k) x xs (each k lower)))

-- where each element is inside, those that are apart by a test that asks for this too are apart
pub are_apart-where : {A : Type 0} (inside : A → Bool) (test : A → A → Bool) (xs : List A) → list_all inside xs ≡ true →
    are_apart (λ x y. inside x && (inside y && test x y)) xs ≡ true → are_apart test xs ≡ true
are_apart-where inside test [] all apart = refl
are_apart-where {A} inside test (x ∷ xs) all apart =
    let both : A → A → Bool = λ y z. inside y && (inside z && test y z) in
    let here = and_parts (inside x) (list_all inside xs) all in
    let parts = and_parts (not (list_any (both x) xs)) (are_apart both xs) apart in
    and_from (not (list_any (test x) xs)) (are_apart test xs)
    (not_from_false (list_any (test x) xs) (none xs here.1 (subst (λ b. list_any (λ z. b && (inside z && test x z)) xs ≡ false) here.0
    (not-true (list_any (both x) xs) parts.0))))
    (are_apart-where inside test xs here.1 parts.1)
  where
    none : (ys : List A) → list_all inside ys ≡ true → list_any (λ z. inside z && test x z) ys ≡ false → list_any (test x) ys ≡ false
    none [] in_all fails = refl
    none (y ∷ ys) in_all fails =
        let first = and_parts (inside y) (list_all inside ys) in_all in
        let rest = or_parts (inside y && test x y) (list_any (λ z. inside z && test x z) ys) fails in
        or_from (test x y) (list_any (test x) ys) (subst (λ b. (b && test x y) ≡ false) first.0 rest.0) (none ys first.1 rest.1)

-- distinct numbers that are all inside have distinct images, where the images of two inside differ
pub is_distinct-map_where : (inside : ℕ → Bool) (f : ℕ → ℕ) →
    ((x y : ℕ) → inside x ≡ true → inside y ≡ true → f x ≡ f y → x ≡ y) →
    (xs : List ℕ) → list_all inside xs ≡ true → is_distinct xs ≡ true → is_distinct (map f xs) ≡ true
is_distinct-map_where inside f differ xs all distinct =
    is_distinct-map f xs
    ∙ are_apart-where inside (λ x y. f y == f x) xs all
    (are_apart-by_images (λ x y. inside x && (inside y && f y == f x)) (λ x. x)
    (λ x y passes.
    let first = and_parts (inside x) (inside y && f y == f x) passes in
    let second = and_parts (inside y) (f y == f x) first.1 in
    differ x y first.0 second.0 (sym (eqb-true (f y) (f x) second.1)))
    xs (ap is_distinct (map_id xs) ∙ distinct))
