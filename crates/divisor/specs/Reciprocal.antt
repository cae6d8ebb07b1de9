-- The reciprocal of a number, in 64 bits.
use Rattle.std.specs.Prelude.{ℕ, ◌≡◌, ◌≤◌, ◌-◌, ◌/◌, ◌^◌}

-- the greatest number of 64 bits over a divisor
pub record IsReciprocal (value reciprocal : ℕ) : Type 0 where
  pub positive : 1 ≤ value
  pub exact : reciprocal ≡ (2 ^ 64 - 1) / value
