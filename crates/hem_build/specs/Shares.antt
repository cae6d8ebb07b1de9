-- The records of some neighbouring keys.
use Rattle.std.specs.Prelude.{◌≡◌, ℕ, ◌+◌, ◌<◌, ◌≤◌, List, length, slice_index_or}
use Rattle.pthash.specs.declared.Record.{Record}
use Rattle.pthash.specs.declared.TheConstants.{MAX_KEYS}
use Rattle.pthash.specs.RecordLaws.{record_at_place}
use Rattle.build_outcome.specs.Clash.{key_at}

-- a share has room for keys of the list alone, from this place on
pub record IsShareOf (keys : List (List ℕ)) (start : ℕ) (share : List Record) : Type 0 where
  pub few : length keys ≤ MAX_KEYS
  pub within : start + length share ≤ length keys

-- each place of a share, before and now, has the record of the key as many places from the start
pub record AreRecordsFrom (keys : List (List ℕ)) (seed start : ℕ) (before now : List Record) : Type 0 where
  pub count : length now ≡ length before
  pub each : (k : ℕ) (d : Record) → k < length before → slice_index_or now k d ≡ record_at_place (key_at keys (start + k)) seed (start + k)
