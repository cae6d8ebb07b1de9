-- One bit of a run of 64-bit words that begins at the word `first`: bit 0 is the lowest of that word.
use Rattle.std.specs.Prelude.{ℕ, ◌+◌, ◌/◌, ◌%◌, ◌^◌, Bool, List, ◌==◌, slice_index, slice_set, bit_or}
use Rattle.std.specs.Int.{bit_at}

-- the word that holds a bit
abbrev pub word_of : ℕ → ℕ → ℕ
word_of first q = first + q / 64

-- whether a bit is set
abbrev pub is_set : List ℕ → ℕ → ℕ → Bool
is_set words first q = bit_at (slice_index words (word_of first q)) (q % 64) == 1

-- the words once a bit is set
abbrev pub set_bit : List ℕ → ℕ → ℕ → List ℕ
set_bit words first q = slice_set words (word_of first q) (bit_or (slice_index words (word_of first q)) (2 ^ (q % 64)))
