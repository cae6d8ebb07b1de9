-- How marks are set and cleared.
use Rattle.std.proofs.Common.{◌≡◌, ◌≢◌, ℕ, ◌-◌, ◌*◌, ◌/◌, ◌%◌, ◌^◌, ◌<◌, ◌≤◌, true, false, ◌||◌}
use Rattle.std.proofs.Common.{List, [], ◌∷◌, ◌++◌, length, get_or, refl, sym, ap, ◌∙◌, arith, ⊎_elim}
use Rattle.std.specs.Prelude.{nat_eq, map, replicate, slice_set, bit_or}
use Rattle.std.proofs.lemmas.Bool.{cases_eq, cases_lt, eq-eqb, ne_eqb, or_parts, or_from, both_ways, false_from_ne_true}
use Rattle.std.proofs.lemmas.List.{map-append, length-replicate, get_or-replicate, get_or_past, get_or-set_same, get_or-set_other, length-set}
use Rattle.std.proofs.lemmas.List.Folds.{list_any-append}
use Rattle.std.proofs.lemmas.Nat.{and_le_r}
use Rattle.word_bits.specs.Bits.{word_of, is_set, set_bit}
use Rattle.word_bits.specs.Laws.{is_set-set_same, is_set-set_stays, length-set_bit}
use Rattle.pthash.specs.Search.{is_among}
use Rattle.pilot_search.specs.Marking.{mark_of, word_of_mark, AreMarks}

-- zeros mark no number
pub no_marks : (n : ℕ) → 1 ≤ n → n ≤ 2 ^ 32 → AreMarks (replicate n 0) []
no_marks n some bound = record {
  some = omega (arith, length-replicate {A = ℕ} n 0);
  bound = omega (arith, length-replicate {A = ℕ} n 0);
  marked = λ x known. absurd cc;
  only = λ w none.
      ⊎_elim
      (λ (lower : w < n). get_or-replicate n w 0 0 lower)
      (λ (higher : n ≤ w). get_or_past (replicate n 0) w 0 (omega (arith, length-replicate {A = ℕ} n 0)))
      (cases_lt w n);
}

-- the mark of a number is within the words
pub mark_within : (words x : ℕ) → 1 ≤ words → word_of_mark words x < words
mark_within words x some =
    let bound : mark_of words x ≤ 64 * words - 1 = and_le_r x (64 * words - 1) in
    let e : word_of_mark words x ≡ mark_of words x / 64 = refl in
    omega (arith, bound, e)

-- what is among one more and is not that one was among them
among_more : (xs : List ℕ) (x y : ℕ) → is_among (xs ++ x ∷ []) y ≡ true → (x ≡ y → ⊥) → is_among xs y ≡ true
among_more xs x y known other =
    let split : is_among (xs ++ x ∷ []) y ≡ (is_among xs y || (nat_eq x y || false)) = list_any-append (λ z. nat_eq z y) xs (x ∷ []) in
    let apart : nat_eq x y ≡ false = ne_eqb x y other in
    elim (is_among xs y) as (λ b. is_among xs y ≡ b → is_among xs y ≡ true) [
      | true ↦ λ e. e
      | false ↦ λ e. absurd (both_ways (is_among (xs ++ x ∷ []) y) (split ∙ rw (e, apart) refl) known)
    ] refl

-- one more number is marked
pub marked_more : (marks numbers : List ℕ) (x : ℕ) → AreMarks marks numbers →
    AreMarks (set_bit marks 0 (mark_of (length marks) x)) (numbers ++ x ∷ [])
marked_more marks numbers x so_far =
    let n : ℕ = length marks in
    let bit : ℕ = mark_of n x in
    let after : List ℕ = set_bit marks 0 bit in
    let same : length after ≡ n = length-set_bit marks 0 bit in
    let within : word_of_mark n x < n = mark_within n x so_far.some in
    let e : word_of 0 bit ≡ word_of_mark n x = omega arith in
    let in_range : word_of 0 bit < length marks = omega (arith, e, within) in
    record {
      some = omega (arith, same, so_far.some);
      bound = omega (arith, same, so_far.bound);
      marked = λ y known.
          ap (λ k. is_set after 0 (mark_of k y)) same
          ∙ ⊎_elim
          (λ (here : x ≡ y). ap (λ k. is_set after 0 (mark_of n k)) (sym here) ∙ is_set-set_same marks 0 bit in_range)
          (λ (other : x ≡ y → ⊥). is_set-set_stays marks 0 (mark_of n y) bit (so_far.marked y (among_more numbers x y known other)))
          (cases_eq x y);
      only = λ w none.
          let none_here : is_among (map (word_of_mark n) (numbers ++ x ∷ [])) w ≡ false =
          ap (λ k. is_among (map (word_of_mark k) (numbers ++ x ∷ [])) w) (sym same) ∙ none in
          let split : is_among (map (word_of_mark n) (numbers ++ x ∷ [])) w ≡
          (is_among (map (word_of_mark n) numbers) w || (nat_eq (word_of_mark n x) w || false)) =
          ap (λ ws. is_among ws w) (map-append (word_of_mark n) numbers (x ∷ []))
          ∙ list_any-append (λ z. nat_eq z w) (map (word_of_mark n) numbers) (word_of_mark n x ∷ []) in
          let parts = or_parts (is_among (map (word_of_mark n) numbers) w) (nat_eq (word_of_mark n x) w || false) (sym split ∙ none_here) in
          let last = or_parts (nat_eq (word_of_mark n x) w) false parts.1 in
          let apart : w ≢ word_of 0 bit = λ same_word. both_ways (nat_eq (word_of_mark n x) w) last.0
          (eq-eqb (word_of_mark n x) w (sym (same_word ∙ e))) in
          get_or-set_other marks (word_of 0 bit) w (bit_or (get_or marks (word_of 0 bit) 0) (2 ^ (bit % 64))) 0 apart ∙ so_far.only w parts.0;
    }

-- a number whose bit is clear is none of those that are marked
pub new_unless_marked : (marks numbers : List ℕ) (x : ℕ) → AreMarks marks numbers → is_set marks 0 (mark_of (length marks) x) ≡ false →
    is_among numbers x ≡ false
new_unless_marked marks numbers x so_far clear =
    false_from_ne_true (is_among numbers x) (λ known. both_ways (is_set marks 0 (mark_of (length marks) x)) clear (so_far.marked x known))

-- no word has a mark but those of the numbers that are left
pub record IsCleared (words : ℕ) (numbers marks : List ℕ) : Type 0 where
  pub count : length marks ≡ words
  pub only : (w : ℕ) → is_among (map (word_of_mark words) numbers) w ≡ false → get_or marks w 0 ≡ 0

-- one more word is cleared
pub cleared_more : (words : ℕ) (x : ℕ) (numbers marks : List ℕ) → IsCleared words (x ∷ numbers) marks → 1 ≤ words →
    IsCleared words numbers (slice_set marks (word_of_mark words x) 0)
cleared_more words x numbers marks so_far some =
    record {
      count = length-set marks (word_of_mark words x) 0 ∙ so_far.count;
      only = λ w none.
          ⊎_elim
          (λ (here : w ≡ word_of_mark words x).
          ap (λ k. get_or (slice_set marks (word_of_mark words x) 0) k 0) here
          ∙ get_or-set_same marks (word_of_mark words x) 0 0 (omega (arith, so_far.count, mark_within words x some)))
          (λ (other : w ≢ word_of_mark words x).
          get_or-set_other marks (word_of_mark words x) w 0 0 other
          ∙ so_far.only w (or_from (nat_eq (word_of_mark words x) w) (is_among (map (word_of_mark words) numbers) w)
          (ne_eqb (word_of_mark words x) w (λ e. other (sym e))) none))
          (cases_eq w (word_of_mark words x));
    }

-- once all words are cleared, no number is marked
pub all_cleared : (words : ℕ) (marks : List ℕ) → IsCleared words [] marks → 1 ≤ words → words ≤ 2 ^ 32 → AreMarks marks []
all_cleared words marks cleared some bound = record {
  some = omega (arith, cleared.count);
  bound = omega (arith, cleared.count);
  marked = λ x known. absurd cc;
  only = λ w none. cleared.only w refl;
}
