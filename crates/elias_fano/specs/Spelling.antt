-- The one spelling of a list of numbers that don't fall.
use Rattle.std.specs.Prelude.{ℕ, zero, suc, ◌≡◌, ◌+◌, ◌/◌, ◌^◌, ◌<◌, ◌≤◌, max, Bool, true, false, ◌&&◌, ◌||◌, List, []}
use Rattle.std.specs.Prelude.{◌∷◌, ◌++◌, length, ◌==◌, nat_lt}
use Rattle.std.specs.Prelude.{nat_le, if◌then◌else◌}
use Rattle.std.specs.List.{flat_map}
use Rattle.std.specs.Int.{w64, to_le_bytes}
use Rattle.bit_vector.specs.Bits.{bits_of_each, packed}

-- a number is 8 bytes, the lowest first
abbrev pub number : ℕ → List ℕ
number n = to_le_bytes w64 n

-- a run of bits is its words, each a number
unfoldable pub run : List Bool → List ℕ
run bits = flat_map number (packed bits)

-- the floor of the logarithm to base 2, but not above a first bound, and 0 of 0
unfoldable pub log2_within : ℕ → ℕ → ℕ
log2_within zero n = 0
log2_within (suc most) n = if nat_lt n 2 then 0 else log2_within most (n / 2) + 1

-- how many low bits of each value stand apart, for a count of values and the last one
unfoldable pub low_width : ℕ → ℕ → ℕ
low_width count last = if count == 0 then 0 else log2_within 63 (max 1 (last / count))

-- the last value, or a first bound where there is none
unfoldable pub last_of : ℕ → List ℕ → ℕ
last_of d [] = d
last_of d (v ∷ vs) = last_of v vs

-- no value is below the one before it, nor the first below a bound
unfoldable pub rises : ℕ → List ℕ → Bool
rises least [] = true
rises least (v ∷ vs) = nat_le least v && rises v vs

-- the place of each value's one: what is above its low bits, and its index
unfoldable pub high_places : ℕ → ℕ → List ℕ → List ℕ
high_places width i [] = []
high_places width i (v ∷ vs) = (v / 2 ^ width + i) ∷ high_places width (i + 1) vs

-- whether a number is among others
unfoldable pub is_among : ℕ → List ℕ → Bool
is_among n [] = false
is_among n (p ∷ ps) = (n == p) || is_among n ps

-- so many bits from a place on, set at the places that are named and nowhere else
unfoldable pub marks : ℕ → ℕ → List ℕ → List Bool
marks at zero ps = []
marks at (suc count) ps = is_among at ps ∷ marks (at + 1) count ps

-- how many high bits there are
abbrev pub high_len : ℕ → ℕ → ℕ → ℕ
high_len count last width = count + last / 2 ^ width + 1

-- the high bits of a list at a width
abbrev pub high_bits : ℕ → List ℕ → List Bool
high_bits width vs = marks 0 (high_len (length vs) (last_of 0 vs) width) (high_places width 0 vs)

-- the spelling at a width and a last value
abbrev pub text_at : ℕ → ℕ → List ℕ → List ℕ
text_at last width vs = number last ++ run (bits_of_each width vs) ++ run (marks 0 (high_len (length vs) last width) (high_places width 0 vs))

-- the spelling: the last value, the low bits, the high bits
unfoldable pub ef_text : List ℕ → List ℕ
ef_text vs = text_at (last_of 0 vs) (low_width (length vs) (last_of 0 vs)) vs

-- what has a spelling: 64-bit numbers that don't fall, at most 2 ^ 36 of them
pub record IsRising (vs : List ℕ) : Type 0 where
  pub rising : rises 0 vs ≡ true
  pub fits : last_of 0 vs < 2 ^ 64
  pub few : length vs ≤ 2 ^ 36
