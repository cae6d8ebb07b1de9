-- Sets of positions of a table: what they hold, and how they gain a position.
use Rattle.std.specs.Prelude.{◌≡◌, ℕ, zero, suc, ◌+◌, ◌<◌, ◌≤◌, Bool, true, false, ◌&&◌}
use Rattle.std.specs.Prelude.{◌||◌, cond, nat_lt, nat_eq, List, [], ◌∷◌, ◌++◌, length, filter, bit_xor}
use Rattle.std.specs.List.{list_any, list_all}
use Rattle.std.specs.Ordering.{nat_cmp}
use Rattle.std.specs.Cmp.{nat_cmp_total, unsigned_tied}
use Rattle.std.specs.FinSet.{empty, contains, insert, union, from_list, len, contains-empty}
use Rattle.std.specs.FinSet.{contains-insert, contains-union, contains-from_list_nat, len-empty, len-insert, same_set, nat_cmp-IsAntisymmetric}
use Rattle.std.proofs.Common.{refl, sym, ap, ◌∙◌, subst, arith, ⊎_elim}
use Rattle.std.proofs.Math.Bool.{or-false}
use Rattle.std.proofs.Math.Nat.{mod-lt}
use Rattle.std.proofs.lemmas.Bool.{and_from, cases_eq, cases_lt, lt-ltb, le-ltb, eq-eqb, ne_eqb}
use Rattle.std.proofs.lemmas.List.Elements.{filter-append}
use Rattle.std.proofs.lemmas.List.Folds.{list_any-append}
use Rattle.std.proofs.lemmas.List.Sums.{length-filter, count_by-le-length}
use Rattle.pthash.specs.Hash.{pilot_hash}
use Rattle.pthash.specs.Order.{numbers_below}
use Rattle.pthash.specs.OrderLaws.{length-numbers_below}
use Rattle.pthash.specs.Search.{Positions, set_of, position_of, positions_of}

-- a number is among itself where it passes
kept_same : (test : ℕ → Bool) (n : ℕ) → list_any (λ y. nat_eq y n) (filter test (n ∷ [])) ≡ test n
kept_same test n =
    elim (test n) as (λ b. list_any (λ y. nat_eq y n) (cond b (n ∷ []) []) ≡ b) [ true ↦ rw (eq-eqb n n refl) refl | false ↦ refl ]

-- a number is not among another
kept_other : (test : ℕ → Bool) (n q : ℕ) → (n ≡ q → ⊥) → list_any (λ y. nat_eq y q) (filter test (n ∷ [])) ≡ false
kept_other test n q other =
    elim (test n) as (λ b. list_any (λ y. nat_eq y q) (cond b (n ∷ []) []) ≡ false) [ true ↦ rw (ne_eqb n q other) refl | false ↦ refl ]

-- one more number below the size
one_more : (test : ℕ → Bool) (n q : ℕ) →
    ((nat_lt q n && test q) || list_any (λ y. nat_eq y q) (filter test (n ∷ []))) ≡ (nat_lt q (suc n) && test q)
one_more test n q =
    ⊎_elim
    (λ (same : n ≡ q).
    let P : ℕ → Type 0 = λ k. ((nat_lt k n && test k) || list_any (λ y. nat_eq y k) (filter test (n ∷ []))) ≡ (nat_lt k (suc n) && test k) in
    subst P same (rw (le-ltb n n (omega arith), lt-ltb n (suc n) (omega arith)) (kept_same test n)))
    (λ (other : n ≡ q → ⊥).
    ap (λ b. (nat_lt q n && test q) || b) (kept_other test n q other) ∙ or-false (nat_lt q n && test q)
    ∙ ⊎_elim
    (λ (lower : q < n). rw (lt-ltb q n lower, lt-ltb q (suc n) (omega arith)) refl)
    (λ (higher : n ≤ q). rw (le-ltb q n higher, le-ltb q (suc n) (omega arith)) refl)
    (cases_lt q n))
    (cases_eq n q)

-- among the numbers below n that pass a test is each number that is below n and passes
among_below : (test : ℕ → Bool) (n q : ℕ) → list_any (λ y. nat_eq y q) (filter test (numbers_below n)) ≡ (nat_lt q n && test q)
unfolding numbers_below
among_below test zero q = rw (le-ltb q 0 (omega arith)) refl
among_below test (suc n) q =
    ap (list_any (λ y. nat_eq y q)) (filter-append test (numbers_below n) (n ∷ []))
    ∙ list_any-append (λ y. nat_eq y q) (filter test (numbers_below n)) (filter test (n ∷ []))
    ∙ ap (λ b. b || list_any (λ y. nat_eq y q) (filter test (n ∷ []))) (among_below test n q)
    ∙ one_more test n q

-- the set holds what is below the size and passes
pub contains-set_of : (size : ℕ) (test : ℕ → Bool) (q : ℕ) → contains (set_of size test) q ≡ (nat_lt q size && test q)
unfolding set_of
contains-set_of size test q = contains-from_list_nat (filter test (numbers_below size)) q ∙ among_below test size q

-- below the size it is the test
pub contains-set_of_below : (size : ℕ) (test : ℕ → Bool) (q : ℕ) → q < size → contains (set_of size test) q ≡ test q
contains-set_of_below size test q below = contains-set_of size test q ∙ ap (λ b. b && test q) (lt-ltb q size below)

-- what a set holds that gained one position
pub contains-insert_nat : (s : Positions) (p q : ℕ) → contains (insert s p) q ≡ (nat_eq q p || contains s q)
contains-insert_nat s p q = contains-insert nat_cmp_total s p q ∙ ap (λ b. b || contains s q) (unsigned_tied q p)

-- the positions of members are in the table
pub positions_below : (seed size : ℕ) (members : List ℕ) (k : ℕ) → 1 ≤ size →
    list_all (λ p. nat_lt p size) (positions_of seed size members k) ≡ true
positions_below seed size [] k room = refl
positions_below seed size (b ∷ bs) k room =
    and_from (nat_lt (position_of seed size k b) size) (list_all (λ p. nat_lt p size) (positions_of seed size bs k))
    (lt-ltb (position_of seed size k b) size (mod-lt (bit_xor b (pilot_hash k seed)) {m = size} room))
    (positions_below seed size bs k room)

-- two sets of positions that hold the same are equal
pub same_positions : (s t : Positions) → ((q : ℕ) → contains s q ≡ contains t q) → s ≡ t
same_positions s t = same_set nat_cmp_total nat_cmp-IsAntisymmetric s t

-- where one more position passes, the set gains it
pub set_of-one_more : (size : ℕ) (test more : ℕ → Bool) (p : ℕ) → p < size → ((q : ℕ) → more q ≡ (nat_eq q p || test q)) →
    set_of size more ≡ insert (set_of size test) p
set_of-one_more size test more p in_range gained =
    same_positions (set_of size more) (insert (set_of size test) p) (λ q.
    contains-set_of size more q
    ∙ ⊎_elim
    (λ (lower : q < size). rw (lt-ltb q size lower) (gained q ∙ ap (λ b. nat_eq q p || b) (sym (contains-set_of_below size test q lower))))
    (λ (higher : size ≤ q).
    let apart : q ≡ p → ⊥ = λ e. absurd (omega arith) in
    rw (le-ltb q size higher) (sym (ap (λ b. nat_eq q p || b) (contains-set_of size test q) ∙ rw (ne_eqb q p apart, le-ltb q size higher) refl)))
    (cases_lt q size)
    ∙ sym (contains-insert_nat (set_of size test) p q))

-- where no position passes, the set is empty
pub set_of-none : (size : ℕ) (test : ℕ → Bool) → ((q : ℕ) → q < size → test q ≡ false) → set_of size test ≡ empty
set_of-none size test none =
    same_positions (set_of size test) empty (λ q.
    contains-set_of size test q
    ∙ ⊎_elim
    (λ (lower : q < size). rw (lt-ltb q size lower) (none q lower))
    (λ (higher : size ≤ q). rw (le-ltb q size higher) refl)
    (cases_lt q size)
    ∙ sym (contains-empty nat_cmp q))

-- a position that is in a set already adds nothing
pub insert_known : (s : Positions) (p : ℕ) → contains s p ≡ true → insert s p ≡ s
insert_known s p known =
    same_positions (insert s p) s (λ q.
    contains-insert_nat s p q
    ∙ ⊎_elim
    (λ (same : q ≡ p). rw (eq-eqb q p same) (sym (ap (contains s) same ∙ known)))
    (λ (other : q ≡ p → ⊥). rw (ne_eqb q p other) refl)
    (cases_eq q p))

-- a set gains at most one
len-one_more : (s : Positions) (p n : ℕ) → len s ≤ n → len (insert s p) ≤ n + 1
len-one_more s p n bound =
    let e = len-insert nat_cmp_total s p in
    rw e (elim (contains s p) as (λ b. cond b (len s) (len s + 1) ≤ n + 1) [ true ↦ omega arith | false ↦ omega arith ])

-- a set has at most as many positions as the list that it was made from
len-from_list : (ps : List ℕ) → len (from_list {R = nat_cmp} ps) ≤ length ps
len-from_list [] = omega (arith, len-empty nat_cmp)
len-from_list (p ∷ ps) = omega (arith, len-one_more (from_list ps) p (length ps) (len-from_list ps))

-- the set has at most as many positions as the size
pub len-set_of : (size : ℕ) (test : ℕ → Bool) → len (set_of size test) ≤ size
unfolding set_of
len-set_of size test =
    let kept : List ℕ = filter test (numbers_below size) in
    omega (arith, len-from_list kept, length-filter test (numbers_below size), count_by-le-length test (numbers_below size), length-numbers_below size)

-- a new position is one more
pub len-insert_new : (s : Positions) (p : ℕ) → contains s p ≡ false → len (insert s p) ≡ len s + 1
len-insert_new s p new = len-insert nat_cmp_total s p ∙ rw new refl

-- the positions of a list, taken one after another
pub union-next : (s : Positions) (ps : List ℕ) (p : ℕ) → insert (union s (from_list ps)) p ≡ union s (from_list (ps ++ p ∷ []))
union-next s ps p =
    same_positions (insert (union s (from_list ps)) p) (union s (from_list (ps ++ p ∷ []))) (λ q.
    contains-insert_nat (union s (from_list ps)) p q
    ∙ ap (λ b. nat_eq q p || b) (contains-union nat_cmp_total s (from_list ps) q ∙ ap (λ b. contains s q || b) (contains-from_list_nat ps q))
    ∙ swapped (nat_eq q p) (contains s q) (list_any (λ y. nat_eq y q) ps)
    ∙ ap (λ b. contains s q || (list_any (λ y. nat_eq y q) ps || b)) (last p q)
    ∙ ap (λ b. contains s q || b) (sym (contains-from_list_nat (ps ++ p ∷ []) q ∙ list_any-append (λ y. nat_eq y q) ps (p ∷ [])))
    ∙ sym (contains-union nat_cmp_total s (from_list (ps ++ p ∷ [])) q))
  where
    swapped : (a b c : Bool) → (a || (b || c)) ≡ (b || (c || a))
    swapped true true c = refl
    swapped true false true = refl
    swapped true false false = refl
    swapped false true c = refl
    swapped false false true = refl
    swapped false false false = refl

    last : (p q : ℕ) → nat_eq q p ≡ (nat_eq p q || false)
    last p q =
        ⊎_elim
        (λ (same : p ≡ q). rw (eq-eqb q p (sym same), eq-eqb p q same) refl)
        (λ (other : p ≡ q → ⊥). let apart : q ≡ p → ⊥ = λ e. other (sym e) in rw (ne_eqb q p apart, ne_eqb p q other) refl)
        (cases_eq p q)

-- no positions add nothing
pub union-none : (s : Positions) → union s (from_list []) ≡ s
union-none s =
    same_positions (union s (from_list [])) s (λ q.
    contains-union nat_cmp_total s (from_list []) q ∙ ap (λ b. contains s q || b) (contains-from_list_nat [] q) ∙ or-false (contains s q))
