-- Counts and places that are kept beside words, so that a one is found without a walk over all words.
use Rattle.std.specs.Prelude.{◌≡◌, ℕ, ◌+◌, ◌-◌, ◌*◌, ◌/◌, ◌%◌, ◌^◌, ◌<◌, ◌≤◌, List, length, take, slice_index}
use Rattle.std.specs.List.{sum_by}
use Rattle.std.specs.Int.{bit_at}
use Rattle.std.specs.Int.RustNames.{count_ones}
use Rattle.bit_vector.specs.declared.TheConstants.{BLOCK, STEP}

-- how many bits of the words are set
abbrev pub all_ones : List ℕ → ℕ
all_ones words = sum_by count_ones words

-- the ones before each block of words, and at the end all of them
pub record IsCounted (words counts : List ℕ) : Type 0 where
  pub len : length counts ≡ (length words + (BLOCK - 1)) / BLOCK + 1
  pub before : (b : ℕ) → b < length counts → slice_index counts b ≡ all_ones (take (BLOCK * b) words)

-- for each so many ones the word that has it, and its number in that word
pub record IsSampled (words samples : List ℕ) : Type 0 where
  pub enough : all_ones words ≤ STEP * length samples
  pub within : (j : ℕ) → j < length samples → slice_index samples j / 64 < length words
  pub number : (j : ℕ) → j < length samples
      → all_ones (take (slice_index samples j / 64) words) + slice_index samples j % 64 ≡ STEP * j

-- the place of the one with that number, from 0
pub record IsOneAt (n i p : ℕ) : Type 0 where
  pub one : bit_at n p ≡ 1
  pub before : count_ones (n % 2 ^ p) ≡ i

-- the word of the one with a number, counted from the first word, and its number in that word
pub record IsInWord (words : List ℕ) (i at left : ℕ) : Type 0 where
  pub within : at < length words
  pub number : all_ones (take at words) + left ≡ i
  pub here : left < count_ones (slice_index words at)

-- bits that are passed, with the ones among them, so that the one with a number is in what follows
pub record IsPassed (rest left size skip ones : ℕ) : Type 0 where
  pub ones_are : ones ≡ count_ones (rest % 2 ^ skip)
  pub within : skip ≤ 3 * size
  pub enough : ones ≤ left
  pub here : left < count_ones (rest % 2 ^ (size + skip))
