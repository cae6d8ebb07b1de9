-- A table's words, seen as the set of the positions whose bits are set.
use Rattle.std.proofs.Common.{◌≡◌, ◌*◌, ◌%◌, ◌<◌, ◌≤◌, ◌||◌, ◌++◌, ◌∙◌}
use Rattle.std.proofs.Common.{ℕ, false, List, [], length, take, drop, get_or, refl, sym, ap, subst, arith, ⊎_elim}
use Rattle.std.specs.Prelude.{nat_eq, replicate}
use Rattle.std.specs.Int.{bit_at}
use Rattle.std.specs.FinSet.{empty, insert}
use Rattle.std.proofs.lemmas.Bool.{cases_eq, cases_lt, eq-eqb, ne_eqb}
use Rattle.std.proofs.lemmas.List.{drop_all, take_all, append-nil, get_or_past, get_or-replicate, length-replicate}
use Rattle.std.proofs.lemmas.Nat.Bits.{bit_at-zero}
use Rattle.word_bits.specs.Bits.{word_of, is_set, set_bit}
use Rattle.word_bits.specs.Laws.{is_set-set_same, is_set-set_other}
use Rattle.pthash.specs.Search.{set_of}
use Rattle.pthash.specs.PositionLaws.{set_of-one_more, set_of-none}

-- what is left of words where all of them were handed out for writing
pub written_back : (n : ℕ) (old new : List ℕ) → length new ≡ length old → n ≡ length old → take n (new ++ drop (length new) old) ≡ new
written_back n old new same all =
    let none : drop (length new) old ≡ [] = drop_all (length new) old (omega arith) in
    rw none (ap (take n) (append-nil new) ∙ take_all n new (omega arith))

-- the bits that are set once one more is
pub is_set-set_bit : (words : List ℕ) (p q : ℕ) → word_of 0 p < length words → is_set (set_bit words 0 p) 0 q ≡ (nat_eq q p || is_set words 0 q)
is_set-set_bit words p q in_range =
    ⊎_elim
    (λ (same : q ≡ p). let P : ℕ → Type 0 = λ k. is_set (set_bit words 0 p) 0 k ≡ (nat_eq k p || is_set words 0 k) in
    subst P (sym same) (is_set-set_same words 0 p in_range ∙ rw (eq-eqb p p refl) refl))
    (λ (other : q ≡ p → ⊥). is_set-set_other words 0 q p other ∙ rw (ne_eqb q p other) refl)
    (cases_eq q p)

-- a table that gains a position
pub set_of-set_bit : (words : List ℕ) (size p : ℕ) → p < size → size < 64 * length words →
    set_of size (is_set (set_bit words 0 p) 0) ≡ insert (set_of size (is_set words 0)) p
set_of-set_bit words size p below room =
    let e : word_of 0 p ≡ word_of 0 p = refl in
    let in_range : word_of 0 p < length words = omega (arith, e) in
    set_of-one_more size (is_set words 0) (is_set (set_bit words 0 p) 0) p below (λ q. is_set-set_bit words p q in_range)

-- no bit of zeros is set
pub is_set-zeros : (n q : ℕ) → is_set (replicate n 0) 0 q ≡ false
is_set-zeros n q =
    let zero_word : get_or (replicate n 0) (word_of 0 q) 0 ≡ 0 =
    ⊎_elim
    (λ (lower : word_of 0 q < n). get_or-replicate n (word_of 0 q) 0 0 lower)
    (λ (higher : n ≤ word_of 0 q). get_or_past (replicate n 0) (word_of 0 q) 0 (omega (arith, length-replicate {A = ℕ} n 0)))
    (cases_lt (word_of 0 q) n) in
    ap (λ w. nat_eq (bit_at w (q % 64)) 1) zero_word ∙ ap (λ b. nat_eq b 1) (bit_at-zero (q % 64))

-- a table of zeros
pub set_of-zeros : (size n : ℕ) → set_of size (is_set (replicate n 0) 0) ≡ empty
set_of-zeros size n = set_of-none size (is_set (replicate n 0) 0) (λ q below. is_set-zeros n q)
