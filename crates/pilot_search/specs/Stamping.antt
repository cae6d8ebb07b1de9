-- Stamps of positions: each pilot that is tested has a stamp of its own, by which a repeated position is seen.
use Rattle.std.specs.Prelude.{◌≡◌, ℕ, ◌==◌, ◌≤◌, List, slice_index}
use Rattle.pthash.specs.Search.{is_among}

-- no stamp is above the last one that was given
pub record AreUpTo (last : ℕ) (stamps : List ℕ) : Type 0 where
  pub each : (p : ℕ) → slice_index stamps p ≤ last

-- the positions that hold this stamp are those of the list, and no stamp is above it
pub record AreStamped (stamps : List ℕ) (stamp : ℕ) (positions : List ℕ) : Type 0 where
  pub some : 1 ≤ stamp
  pub last : AreUpTo stamp stamps
  pub held : (p : ℕ) → (slice_index stamps p == stamp) ≡ is_among positions p
