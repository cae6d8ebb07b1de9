-- Free positions are found word by word.
use Rattle.std.proofs.Common.{◌≡◌, ℕ, zero, suc, ◌+◌, ◌-◌, ◌*◌, ◌/◌, ◌%◌, ◌^◌, ◌<◌, ◌≤◌, min, Bool, true}
use Rattle.std.proofs.Common.{false, not, ◌==◌, cond}
use Rattle.std.proofs.Common.{List, [], ◌∷◌, ◌++◌, sym, ap, ◌∙◌, arith, ⊎_elim}
use Rattle.std.specs.Int.{bit_at, bit_not, trailing_zeros, w64}
use Rattle.std.proofs.lemmas.Bool.{cases_lt, eq-eqb, ne_eqb}
use Rattle.std.proofs.lemmas.List.{append-nil}
use Rattle.std.proofs.lemmas.Nat.{pow_pos, shr-shr, div_below}
use Rattle.std.proofs.lemmas.Nat.Bits.{bit_at-lt, bit_at_not, bit_at_above, bit_at-zero, bit_at-trailing_zeros}
use Rattle.pthash.specs.Order.{numbers_below}
use Rattle.build_outcome.specs.FreeList.{free_below}
use Rattle.build_outcome.specs.FreeListLaws.{free_below-suc}
use Rattle.part_function.specs.Walk.{IsNextFree, IsRunOfOnes}

-- each position from one on and before another is taken, if it is below the end
pub record AreTakenTo (is_taken : ℕ → Bool) (from end position : ℕ) : Type 0 where
  pub from_on : from ≤ position
  pub taken : (p : ℕ) → from ≤ p → p < position → p < end → is_taken p ≡ true

-- a word's bits tell which positions from 64 times i on are taken, below the size
abbrev pub TellsTaken : (ℕ → Bool) → ℕ → ℕ → ℕ → Type 0
TellsTaken is_taken size i word = (k : ℕ) → k < 64 → 64 * i + k < size → (bit_at word k == 1) ≡ is_taken (64 * i + k)

-- a bit of the free ones above a place of a word
free_bit : (word s j : ℕ) → word < 2 ^ 64 → s + j < 64 → bit_at (bit_not w64 word / 2 ^ s) j ≡ 1 - bit_at word (s + j)
free_bit word s j fits within =
    ap (λ n. n % 2) (shr-shr (bit_not w64 word) s j) ∙ bit_at_not w64 word (s + j) fits within

-- no bit stands behind a word
free_bit-within : (word s j : ℕ) → bit_at (bit_not w64 word / 2 ^ s) j ≡ 1 → s + j < 64
free_bit-within word s j one =
    ⊎_elim
    (λ (within : s + j < 64). within)
    (λ (past : 64 ≤ s + j).
    let none : bit_at (bit_not w64 word / 2 ^ s) j ≡ 0 =
    ap (λ n. n % 2) (shr-shr (bit_not w64 word) s j) ∙ bit_at_above (bit_not w64 word) 64 (s + j) (omega arith) past in
    absurd (omega arith))
    (cases_lt (s + j) 64)

-- the free ones are a word
free_fits : (word s : ℕ) → bit_not w64 word / 2 ^ s < 2 ^ 64
free_fits word s =
    let some : 1 ≤ 2 ^ s = pow_pos s in
    div_below (bit_not w64 word) (2 ^ s) (2 ^ 64) some (omega arith)

-- up to the lowest free bit all are set
pub run_to_free : (word place run : ℕ) → word < 2 ^ 64 → 0 < bit_not w64 word / 2 ^ place →
    run ≡ trailing_zeros w64 (bit_not w64 word / 2 ^ place) →
    IsRunOfOnes word place run
run_to_free word place run fits some is =
    let free : ℕ = bit_not w64 word / 2 ^ place in
    let lowest = bit_at-trailing_zeros w64 free some (free_fits word place) in
    let here : bit_at free run ≡ 1 = ap (bit_at free) is ∙ lowest.1 in
    let inside : place + run < 64 = free_bit-within word place run here in
    record {
      within = omega arith;
      ones = λ j below.
          let clear : bit_at free j ≡ 0 = lowest.2 j (omega arith) in
          omega (arith, free_bit word place j fits (omega arith), bit_at-lt word (place + j));
      next = λ _. omega (arith, free_bit word place run fits inside, bit_at-lt word (place + run));
    }

-- without a free bit all are set
pub run_to_end : (word place run : ℕ) → word < 2 ^ 64 → place < 64 → bit_not w64 word / 2 ^ place ≤ 0 → run ≡ 64 - place →
    IsRunOfOnes word place run
run_to_end word place run fits within none is =
    let free : ℕ = bit_not w64 word / 2 ^ place in
    let zero_word : free ≡ 0 = omega arith in
    record {
      within = omega arith;
      ones = λ j below.
          let clear : bit_at free j ≡ 0 = ap (λ n. bit_at n j) zero_word ∙ bit_at-zero j in
          omega (arith, free_bit word place j fits (omega arith), bit_at-lt word (place + j));
      next = λ more. absurd (omega arith);
    }

-- the positions of a run are taken
pub run_taken : (is_taken : ℕ → Bool) (size from end position word run : ℕ) → TellsTaken is_taken size (position / 64) word →
    IsRunOfOnes word (position % 64) run → end ≤ size → AreTakenTo is_taken from end position → AreTakenTo is_taken from end (position + run)
run_taken is_taken size from end position word run tells ones room so_far = record {
  from_on = omega (arith, so_far.from_on);
  taken = λ p after lower below.
      ⊎_elim
      (λ (seen : p < position). so_far.taken p after seen below)
      (λ (new : position ≤ p).
      let j : ℕ = p - position in
      let k : ℕ = position % 64 + j in
      let place : 64 * (position / 64) + k ≡ p = omega arith in
      ap is_taken (sym place)
      ∙ sym (tells k (omega (arith, ones.within)) (omega arith))
      ∙ eq-eqb (bit_at word k) 1 (ones.ones j (omega arith)))
      (cases_lt p position);
}

-- the position behind a run that ends within its word is the next free one
pub run_free : (is_taken : ℕ → Bool) (size from end position word run : ℕ) → TellsTaken is_taken size (position / 64) word →
    IsRunOfOnes word (position % 64) run → end ≤ size → position < end → position % 64 + run < 64 → AreTakenTo is_taken from end position →
    IsNextFree is_taken from end (min (position + run) end)
run_free is_taken size from end position word run tells ones room below within so_far =
    let next : AreTakenTo is_taken from end (position + run) = run_taken is_taken size from end position word run tells ones room so_far in
    record {
      from_on = omega (arith, so_far.from_on);
      within = omega arith;
      before = λ p after lower. next.taken p after (omega arith) (omega arith);
      free = λ inside.
          let k : ℕ = position % 64 + run in
          let place : 64 * (position / 64) + k ≡ min (position + run) end = omega arith in
          let clear : bit_at word k ≡ 0 = ones.next within in
          ap is_taken (sym place) ∙ sym (tells k within (omega arith)) ∙ ne_eqb (bit_at word k) 1 (λ one. omega arith);
    }

-- at the end all are taken
pub end_free : (is_taken : ℕ → Bool) (from end position : ℕ) → from ≤ end → end ≤ position → AreTakenTo is_taken from end position →
    IsNextFree is_taken from end end
end_free is_taken from end position before past so_far = record {
  from_on = before;
  within = omega arith;
  before = λ p after lower. so_far.taken p after (omega arith) lower;
  free = λ inside. absurd (omega arith);
}

-- taken positions add no free one
free_below-taken : (is_taken : ℕ → Bool) (n k : ℕ) → ((p : ℕ) → n ≤ p → p < n + k → is_taken p ≡ true) →
    free_below is_taken (n + k) ≡ free_below is_taken n
free_below-taken is_taken n zero taken = ap (free_below is_taken) (let same : n + 0 ≡ n = omega arith in same)
free_below-taken is_taken n (suc k) taken =
    let more : n + suc k ≡ suc (n + k) = omega arith in
    ap (free_below is_taken) more
    ∙ free_below-suc is_taken (n + k)
    ∙ ap (λ b. free_below is_taken (n + k) ++ cond (not b) ((n + k) ∷ []) []) (taken (n + k) (omega arith) (omega arith))
    ∙ append-nil (free_below is_taken (n + k))
    ∙ free_below-taken is_taken n k (λ p after lower. taken p after (omega arith))

-- up to the next free position there is no further one
pub free_below-next : (is_taken : ℕ → Bool) (from end next : ℕ) → IsNextFree is_taken from end next →
    free_below is_taken next ≡ free_below is_taken from
free_below-next is_taken from end next found =
    let there : next ≡ from + (next - from) = omega (arith, found.from_on) in
    ap (free_below is_taken) there
    ∙ free_below-taken is_taken from (next - from) (λ p after lower. found.before p after (omega (arith, found.from_on)))

-- with a free position and those up to the next one
pub free_below-push : (is_taken : ℕ → Bool) (position end next : ℕ) (free : List ℕ) → is_taken position ≡ false →
    free ≡ free_below is_taken position →
    IsNextFree is_taken (position + 1) end next → free ++ position ∷ [] ≡ free_below is_taken next
free_below-push is_taken position end next free vacant so_far found =
    let more : position + 1 ≡ suc position = omega arith in
    ap (λ ps. ps ++ position ∷ []) so_far
    ∙ sym (free_below-next is_taken (position + 1) end next found
    ∙ ap (free_below is_taken) more
    ∙ free_below-suc is_taken position
    ∙ ap (λ b. free_below is_taken position ++ cond (not b) (position ∷ []) []) vacant)

-- the free positions below a place up to which they were found: it is the next free one, or n
pub record AreFreeBelow (is_taken : ℕ → Bool) (n position : ℕ) (free : List ℕ) : Type 0 where
  pub within : position ≤ n
  pub are : free ≡ free_below is_taken position
  pub open_here : position < n → is_taken position ≡ false

-- before the first one
pub first_free : (is_taken : ℕ → Bool) (n position : ℕ) → IsNextFree is_taken 0 n position → AreFreeBelow is_taken n position []
unfolding numbers_below
first_free is_taken n position found = record {
  within = found.within;
  are = sym (free_below-next is_taken 0 n position found);
  open_here = found.free;
}

-- one more
pub one_more_free : (is_taken : ℕ → Bool) (n position next : ℕ) (free : List ℕ) → position < n → AreFreeBelow is_taken n position free →
    IsNextFree is_taken (position + 1) n next → AreFreeBelow is_taken n next (free ++ position ∷ [])
one_more_free is_taken n position next free below so_far found = record {
  within = found.within;
  are = free_below-push is_taken position n next free (so_far.open_here below) so_far.are found;
  open_here = found.free;
}

-- all of them
pub all_free : (is_taken : ℕ → Bool) (n position : ℕ) (free : List ℕ) → n ≤ position → AreFreeBelow is_taken n position free →
    free ≡ free_below is_taken n
all_free is_taken n position free past so_far = so_far.are ∙ ap (free_below is_taken) (let same : position ≡ n = omega (arith, so_far.within) in same)
