-- Marks of numbers: bits by which a number is seen to be new.
use Rattle.std.specs.Prelude.{◌≡◌, ℕ, ◌-◌, ◌*◌, ◌/◌, ◌^◌, ◌≤◌, true, false, List, length, map, slice_index, bit_and}
use Rattle.pthash.specs.Search.{is_among}
use Rattle.word_bits.specs.Bits.{is_set}

-- the bit of a number among the marks of this many words
abbrev pub mark_of : ℕ → ℕ → ℕ
mark_of words number = bit_and number (64 * words - 1)

-- the word of that bit
abbrev pub word_of_mark : ℕ → ℕ → ℕ
word_of_mark words number = mark_of words number / 64

-- each of the numbers is marked, and no word without one of them has a mark
pub record AreMarks (marks numbers : List ℕ) : Type 0 where
  pub some : 1 ≤ length marks
  pub bound : length marks ≤ 2 ^ 32
  pub marked : (x : ℕ) → is_among numbers x ≡ true → is_set marks 0 (mark_of (length marks) x) ≡ true
  pub only : (w : ℕ) → is_among (map (word_of_mark (length marks)) numbers) w ≡ false → slice_index marks w ≡ 0
