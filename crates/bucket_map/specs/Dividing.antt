-- The divisors by which hashes are put into buckets.
use Rattle.std.specs.Prelude.{◌≡◌, ℕ, ◌-◌, ◌≤◌, max}
use Rattle.pthash.specs.declared.TheConstants.{MAX_BUCKETS}
use Rattle.pthash.specs.Sizes.{front_count_of}

-- the front buckets, counted and as a divisor, the other buckets, and all of them
pub record DividesBuckets (front_count front back whole : ℕ) : Type 0 where
  pub some : 1 ≤ whole
  pub bound : whole ≤ MAX_BUCKETS
  pub counted : front_count ≡ front_count_of whole
  pub front_is : front ≡ max front_count 1
  pub back_is : back ≡ whole - front_count
