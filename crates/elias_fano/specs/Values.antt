-- The values that low and high bits stand for, and what bits a list has.
use Rattle.std.specs.Prelude.{ℕ, ◌≡◌, ◌+◌, ◌-◌, ◌*◌, ◌^◌, ◌<◌, ◌≤◌, Bool, true, List, [], ◌∷◌, length, take, drop}
use Rattle.std.specs.Prelude.{nat_lt}
use Rattle.std.specs.List.{prefix_len}
use Rattle.bit_vector.specs.Bits.{number_of, ones, places}
use Rattle.elias_fano.specs.Spelling.{low_width, last_of, rises, high_len}

-- each value from the place of its one and its low bits
unfoldable pub joined : ℕ → ℕ → List ℕ → List Bool → List ℕ
joined width i [] low = []
joined width i (p ∷ ps) low = ((p - i) * 2 ^ width + number_of (take width low)) ∷ joined width (i + 1) ps (drop width low)

-- the values of low and high bits
abbrev pub values_of : ℕ → List Bool → List Bool → List ℕ
values_of width low high = joined width 0 (places high) low

-- there are as many low and high bits as a count, a last value and a width ask for
pub record AreParts (count last width : ℕ) (low high : List Bool) : Type 0 where
  pub few : count ≤ 2 ^ 36
  pub wide : width ≡ low_width count last
  pub low_len : length low ≡ count * width
  pub high_len_is : length high ≡ high_len count last width
  pub ones_are : ones high ≡ count

-- the bits are those of a list that rises to the last value
pub record AreValues (count last width : ℕ) (low high : List Bool) : Type 0 where
  pub parts : AreParts count last width low high
  pub fits : last < 2 ^ 64
  pub rising : rises 0 (values_of width low high) ≡ true
  pub last_is : last_of 0 (values_of width low high) ≡ last

-- how many values at the front are below a bound
abbrev pub below_len : ℕ → List ℕ → ℕ
below_len bound vs = prefix_len (λ v. nat_lt v bound) vs
