-- What a partition keeps.
use Rattle.std.specs.Prelude.{◌≡◌, ℕ, ◌<◌, ◌≤◌, [], max, length, All}
use Rattle.pthash.specs.declared.TheConstants.{MAX_KEYS, MAX_BUCKETS, MAX_POSITIONS}
use Rattle.build_outcome.specs.Index.{PartData}
use Rattle.build_outcome.specs.Values.{part_size}

-- a partition's keys, pilots and positions are within the limits, each free entry is below the number of keys, and where
-- there is no key there is no pilot
pub record IsPart (part : PartData) : Type 0 where
  pub few_keys : part.n ≤ MAX_KEYS
  pub some_pilot : 0 < part.n → 1 ≤ length part.pilots
  pub few_pilots : length part.pilots ≤ MAX_BUCKETS
  pub no_pilot : part.n ≡ 0 → part.pilots ≡ []
  pub few_positions : part_size part ≤ MAX_POSITIONS
  pub free_is_below : All (λ value. value < part.n) part.free

-- a partition and its divisors, for its buckets and its positions; those of an empty one are 1
pub record IsHeldPart (part : PartData) (buckets positions : ℕ) : Type 0 where
  pub keeps : IsPart part
  pub buckets_are : buckets ≡ max (length part.pilots) 1
  pub positions_are : positions ≡ max (part_size part) 1
