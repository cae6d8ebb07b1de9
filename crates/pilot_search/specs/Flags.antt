-- Flags of pilots: bits by which some of a group are seen to fail.
use Rattle.std.specs.Prelude.{◌≡◌, ℕ, ◌+◌, ◌%◌, Bool, false, List, not, slice_index, bit_xor}
use Rattle.std.specs.Int.{bit_at}
use Rattle.std.specs.FinSet as set
use Rattle.pilot_search.specs.Table.{Table}

-- a bit is set only where the number as many places on fails the test
pub record FailWhereSet (test : ℕ → Bool) (from flags : ℕ) : Type 0 where
  pub each : (j : ℕ) → bit_at flags j ≡ 1 → test (from + j) ≡ false

-- whether a member's position is free under the pilot whose hash stands at a place
abbrev pub is_free_under : List ℕ → ℕ → Table → ℕ → Bool
is_free_under hashes member table place = not (set.contains table.taken (bit_xor member (slice_index hashes place) % table.size))
