-- Positions that fit, one after another.
use Rattle.std.proofs.Common.{◌≡◌, ℕ, ◌+◌, ◌<◌, arith, Bool, true, false, ◌&&◌, ◌||◌, List}
use Rattle.std.proofs.Common.{[], ◌∷◌, ◌++◌, length, take, drop, get_or, refl, sym, ap, ◌∙◌, subst, ⊎_elim}
use Rattle.std.specs.Prelude.{not, nat_eq, bit_xor, ◌%◌}
use Rattle.std.specs.List.{list_all}
use Rattle.std.proofs.Math.Bool.{and-false}
use Rattle.std.proofs.lemmas.Bool.{cases_eq, eq-eqb, ne_eqb, and_parts, and_from, or_parts, not-true, not_from_false, or_from, both_ways, false_from_ne_true}
use Rattle.std.proofs.lemmas.List.{take_more, take-append-drop, get_or-map, length-map}
use Rattle.std.proofs.lemmas.List.Folds.{list_all-append, list_any-append}
use Rattle.std.proofs.lemmas.List.Sums.{AllPass-from_list_all}
use Rattle.pthash.specs.Search.{fits, is_among, is_distinct}
use Rattle.pilot_search.specs.Table.{positions_under}

-- equality of numbers, either way round
same_test : (x y : ℕ) → nat_eq x y ≡ nat_eq y x
same_test x y =
    ⊎_elim
    (λ (same : x ≡ y). rw (eq-eqb x y same, eq-eqb y x (sym same)) refl)
    (λ (other : x ≡ y → ⊥). let apart : y ≡ x → ⊥ = λ e. other (sym e) in rw (ne_eqb x y other, ne_eqb y x apart) refl)
    (cases_eq x y)

-- one more position that is free and apart
regrouped : (a d e b : Bool) → (not (a || (e || false)) && (d && not b)) ≡ ((not a && d) && not (e || b))
regrouped true d e b = refl
regrouped false true true b = refl
regrouped false false true b = refl
regrouped false d false b = refl

-- a list that gains a number at its end
is_distinct-push : (xs : List ℕ) (x : ℕ) → is_distinct (xs ++ x ∷ []) ≡ (is_distinct xs && not (is_among xs x))
is_distinct-push [] x = refl
is_distinct-push (y ∷ ys) x =
    ap (λ b. not b && is_distinct (ys ++ x ∷ [])) (list_any-append (λ z. nat_eq z y) ys (x ∷ []))
    ∙ ap (λ b. not (is_among ys y || (nat_eq x y || false)) && b) (is_distinct-push ys x)
    ∙ ap (λ b. not (is_among ys y || (b || false)) && (is_distinct ys && not (is_among ys x))) (same_test x y)
    ∙ regrouped (is_among ys y) (is_distinct ys) (nat_eq y x) (is_among ys x)

-- one more position, by the tests on each
paired : (a t d m : Bool) → ((a && (not t && true)) && (d && not m)) ≡ ((a && d) && not (t || m))
paired true true true m = refl
paired true true false m = refl
paired true false d m = refl
paired false t d m = refl

-- positions that gain one at their end
fits-push : (taken : ℕ → Bool) (ps : List ℕ) (p : ℕ) → fits taken (ps ++ p ∷ []) ≡ (fits taken ps && not (taken p || is_among ps p))
fits-push taken ps p =
    ap (λ b. b && is_distinct (ps ++ p ∷ [])) (list_all-append (λ q. not (taken q)) ps (p ∷ []))
    ∙ ap (λ b. (list_all (λ q. not (taken q)) ps && (not (taken p) && true)) && b) (is_distinct-push ps p)
    ∙ paired (list_all (λ q. not (taken q)) ps) (taken p) (is_distinct ps) (is_among ps p)

-- the next position fits where it is not taken and is none of the earlier ones
pub fits_more : (taken : ℕ → Bool) (ps : List ℕ) (i : ℕ) → i < length ps →
    fits taken (take (i + 1) ps) ≡ (fits taken (take i ps) && not (taken (get_or ps i 0) || is_among (take i ps) (get_or ps i 0)))
fits_more taken ps i in_range = ap (fits taken) (take_more ps i 0 in_range) ∙ fits-push taken (take i ps) (get_or ps i 0)

-- a front of distinct numbers is distinct
is_distinct_part : (xs ys : List ℕ) → is_distinct (xs ++ ys) ≡ true → is_distinct xs ≡ true
is_distinct_part [] ys distinct = refl
is_distinct_part (x ∷ xs) ys distinct =
    let parts = and_parts (not (is_among (xs ++ ys) x)) (is_distinct (xs ++ ys)) distinct in
    let none = or_parts (is_among xs x) (is_among ys x) (sym (list_any-append (λ z. nat_eq z x) xs ys) ∙ not-true (is_among (xs ++ ys) x) parts.0) in
    and_from (not (is_among xs x)) (is_distinct xs) (not_from_false (is_among xs x) none.0) (is_distinct_part xs ys parts.1)

-- a front of positions that fit fits
fits_part : (taken : ℕ → Bool) (ps qs : List ℕ) → fits taken (ps ++ qs) ≡ true → fits taken ps ≡ true
fits_part taken ps qs fit =
    let parts = and_parts (list_all (λ q. not (taken q)) (ps ++ qs)) (is_distinct (ps ++ qs)) fit in
    let free = and_parts (list_all (λ q. not (taken q)) ps) (list_all (λ q. not (taken q)) qs)
    (sym (list_all-append (λ q. not (taken q)) ps qs) ∙ parts.0) in
    and_from (list_all (λ q. not (taken q)) ps) (is_distinct ps) free.0 (is_distinct_part ps qs parts.1)

-- where the first positions don't fit, all of them don't
pub fits_none : (taken : ℕ → Bool) (ps : List ℕ) (n : ℕ) → fits taken (take n ps) ≡ false → fits taken ps ≡ false
fits_none taken ps n fails =
    elim (fits taken ps) as (λ b. fits taken ps ≡ b → fits taken ps ≡ false) [
      | true ↦ λ fit.
          let yes : fits taken (take n ps) ≡ true = fits_part taken (take n ps) (drop n ps) (ap (fits taken) (take-append-drop n ps) ∙ fit) in
          absurd cc
      | false ↦ λ e. e
    ] refl

-- positions don't fit where one of them is taken or is among the earlier ones
pub fails_at : (taken : ℕ → Bool) (ps : List ℕ) (i p : ℕ) → i < length ps → get_or ps i 0 ≡ p → (taken p || is_among (take i ps) p) ≡ true →
    fits taken ps ≡ false
fails_at taken ps i p in_range here clash =
    let P : ℕ → Type 0 = λ q. (taken q || is_among (take i ps) q) ≡ true in
    let there : (taken (get_or ps i 0) || is_among (take i ps) (get_or ps i 0)) ≡ true = subst P (sym here) clash in
    fits_none taken ps (i + 1)
    (fits_more taken ps i in_range ∙ ap (λ b. fits taken (take i ps) && not b) there ∙ and-false (fits taken (take i ps)))

-- the next position fits too
pub fits_at : (taken : ℕ → Bool) (ps : List ℕ) (i p : ℕ) → i < length ps → get_or ps i 0 ≡ p →
    fits taken (take i ps) ≡ true → taken p ≡ false →
    is_among (take i ps) p ≡ false → fits taken (take (i + 1) ps) ≡ true
fits_at taken ps i p in_range here fit free new =
    let P : ℕ → Type 0 = λ q. (taken q || is_among (take i ps) q) ≡ false in
    let there : (taken (get_or ps i 0) || is_among (take i ps) (get_or ps i 0)) ≡ false =
    subst P (sym here) (or_from (taken p) (is_among (take i ps) p) free new) in
    fits_more taken ps i in_range ∙ ap (λ b. fits taken (take i ps) && not b) there ∙ ap (λ b. b && true) fit

-- one more number is distinct from the others
pub distinct_at : (xs : List ℕ) (i x : ℕ) → i < length xs → get_or xs i 0 ≡ x → is_distinct (take i xs) ≡ true →
    is_among (take i xs) x ≡ false →
    is_distinct (take (i + 1) xs) ≡ true
distinct_at xs i x in_range here distinct new =
    ap is_distinct (take_more xs i 0 in_range ∙ ap (λ y. take i xs ++ y ∷ []) here) ∙ is_distinct-push (take i xs) x ∙ rw (distinct, new) refl

-- numbers of which one is among the earlier ones repeat
pub repeats_at : (xs : List ℕ) (i x : ℕ) → i < length xs → get_or xs i 0 ≡ x → is_among (take i xs) x ≡ true → is_distinct xs ≡ false
repeats_at xs i x in_range here again =
    let front : is_distinct (take (i + 1) xs) ≡ false =
    ap is_distinct (take_more xs i 0 in_range ∙ ap (λ y. take i xs ++ y ∷ []) here) ∙ is_distinct-push (take i xs) x
    ∙ ap (λ b. is_distinct (take i xs) && not b) again ∙ and-false (is_distinct (take i xs)) in
    false_from_ne_true (is_distinct xs) (λ distinct.
    both_ways (is_distinct (take (i + 1) xs)) front
    (is_distinct_part (take (i + 1) xs) (drop (i + 1) xs) (ap is_distinct (take-append-drop (i + 1) xs) ∙ distinct)))

-- what is not so is so
pub known_from_not : (b : Bool) → not b ≡ false → b ≡ true
known_from_not true known = refl
known_from_not false known = absurd cc

-- one number is distinct
pub distinct_one : (xs : List ℕ) → is_distinct (take 1 xs) ≡ true
distinct_one [] = refl
distinct_one (x ∷ xs) = refl

-- one more position is free
pub free_at : (taken : ℕ → Bool) (ps : List ℕ) (i p : ℕ) → i < length ps → get_or ps i 0 ≡ p →
    list_all (λ q. not (taken q)) (take i ps) ≡ true →
    taken p ≡ false → list_all (λ q. not (taken q)) (take (i + 1) ps) ≡ true
free_at taken ps i p in_range here free new =
    ap (list_all (λ q. not (taken q))) (take_more ps i 0 in_range ∙ ap (λ y. take i ps ++ y ∷ []) here)
    ∙ list_all-append (λ q. not (taken q)) (take i ps) (p ∷ []) ∙ rw (free, new) refl

-- positions of which one is taken are not all free
pub taken_at : (taken : ℕ → Bool) (ps : List ℕ) (i p : ℕ) → i < length ps → get_or ps i 0 ≡ p → taken p ≡ true →
    list_all (λ q. not (taken q)) ps ≡ false
taken_at taken ps i p in_range here known =
    false_from_ne_true (list_all (λ q. not (taken q)) ps) (λ free.
    both_ways (taken (get_or ps i 0)) (not-true (taken (get_or ps i 0)) (AllPass-from_list_all (λ q. not (taken q)) ps free i 0 in_range))
    (ap taken here ∙ known))

-- the position of one member
pub get_or-positions_under : (hash size : ℕ) (members : List ℕ) (i : ℕ) → i < length members →
    get_or (positions_under hash size members) i 0 ≡ bit_xor (get_or members i 0) hash % size
get_or-positions_under hash size members i in_range = get_or-map (λ b. bit_xor b hash % size) members i 0 0 in_range

-- one position for each member
pub length-positions_under : (hash size : ℕ) (members : List ℕ) → length (positions_under hash size members) ≡ length members
length-positions_under hash size members = length-map members (λ b. bit_xor b hash % size)

-- a taken position fails the pilot
pub taken_fails : (taken : ℕ → Bool) (hash size : ℕ) (members : List ℕ) (i : ℕ) → i < length members →
    taken (bit_xor (get_or members i 0) hash % size) ≡ true
    → fits taken (positions_under hash size members) ≡ false
taken_fails taken hash size members i in_range known =
    ap (λ b. b && is_distinct (positions_under hash size members))
    (taken_at taken (positions_under hash size members) i (bit_xor (get_or members i 0) hash % size)
    (omega (arith, length-positions_under hash size members)) (get_or-positions_under hash size members i in_range) known)
