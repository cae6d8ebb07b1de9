-- A list of bits as a number, and packed into 64-bit words. The lowest bit and the lowest word come first.
use Rattle.std.specs.Prelude.{ℕ, zero, suc, ◌≡◌, ◌+◌, ◌*◌, ◌/◌, ◌%◌, ◌^◌, ◌<◌, Bool, List, [], ◌∷◌, ◌++◌, length}
use Rattle.std.specs.Prelude.{◌==◌, if◌then◌else◌, count_by, slice_index}

-- the lowest bits of a number, as many as are asked for
unfoldable pub bits_of : ℕ → ℕ → List Bool
bits_of zero n = []
bits_of (suc width) n = (n % 2 == 1) ∷ bits_of width (n / 2)

-- the lowest bits of each number, one number after the other
unfoldable pub bits_of_each : ℕ → List ℕ → List Bool
bits_of_each width [] = []
bits_of_each width (v ∷ vs) = bits_of width v ++ bits_of_each width vs

-- the number whose binary digits the bits are
unfoldable pub number_of : List Bool → ℕ
number_of [] = 0
number_of (b ∷ bs) = (if b then 1 else 0) + 2 * number_of bs

-- the number whose digits in base 2 ^ 64 the words are
unfoldable pub words_number : List ℕ → ℕ
words_number [] = 0
words_number (w ∷ ws) = w + 2 ^ 64 * words_number ws

-- the lowest digits of a number in base 2 ^ 64, as many as are asked for
unfoldable pub words_from : ℕ → ℕ → List ℕ
words_from zero n = []
words_from (suc count) n = n % 2 ^ 64 ∷ words_from count (n / 2 ^ 64)

-- how many words hold that many bits
abbrev pub words_for : ℕ → ℕ
words_for len = (len + 63) / 64

-- the bits packed into words, the unused bits of the last word 0
abbrev pub packed : List Bool → List ℕ
packed bits = words_from (words_for (length bits)) (number_of bits)

-- as many 64-bit words as the bits take, with no bit set after the last
pub record IsPacked (words : List ℕ) (len : ℕ) : Type 0 where
  pub count : length words ≡ words_for len
  pub fit : (i : ℕ) → slice_index words i < 2 ^ 64
  pub clear : words_number words < 2 ^ len

-- how many of the bits are set
abbrev pub ones : List Bool → ℕ
ones bits = count_by (λ b. b) bits

-- the places of the bits that are set, from a first place on
unfoldable pub places_from : ℕ → List Bool → List ℕ
places_from at [] = []
places_from at (b ∷ bs) = if b then at ∷ places_from (at + 1) bs else places_from (at + 1) bs

-- the places of the bits that are set
abbrev pub places : List Bool → List ℕ
places bits = places_from 0 bits
