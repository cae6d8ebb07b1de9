-- Hashes of pilots that are kept.
use Rattle.std.specs.Prelude.{◌≡◌, ℕ, ◌<◌, List, length, slice_index}
use Rattle.pthash.specs.Hash.{pilot_hash}

-- each pilot's hash stands at the pilot's place
pub record AreHashes (seed : ℕ) (hashes : List ℕ) : Type 0 where
  pub each : (pilot : ℕ) → pilot < length hashes → slice_index hashes pilot ≡ pilot_hash pilot seed
