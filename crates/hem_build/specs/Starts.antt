-- Where partitions and groups of them begin.
use Rattle.std.specs.Prelude.{◌≡◌, ℕ, ◌+◌, ◌-◌, ◌<◌, ◌≤◌, List, [], length, take, slice_index, slice_index_or}
use Rattle.pthash.specs.declared.Record.{Record}
use Rattle.pthash.specs.declared.TheConstants.{MAX_KEYS, MAX_PARTITIONS}
use Rattle.settings.specs.Workers.{workers_of}
use Rattle.settings.specs.declared.how.How.{How}
use Rattle.settings.specs.declared.settings.TheConstants.{MAX_WORKERS}
use Rattle.build_outcome.specs.Index.{PartData, IndexData}
use Rattle.build_outcome.specs.Validity.{IsValidIndex}
use Rattle.build_outcome.specs.Values.{key_count}

-- for each partition, how many keys those before it have
pub record AreStarts (parts : List PartData) (starts : List ℕ) : Type 0 where
  pub count : length starts ≡ length parts
  pub each : (q : ℕ) → q < length parts → slice_index starts q ≡ key_count (take q parts)

-- an index is valid, and kept with where its partitions begin
pub record IsHeldIndex (x : IndexData) (starts : List ℕ) : Type 0 where
  pub valid : IsValidIndex x
  pub begin : AreStarts x.parts starts

-- no partition has more records than a list may have keys
abbrev pub FewKeys : List (List Record) → Type 0
FewKeys partitions = (k : ℕ) → k < length partitions → length (slice_index_or partitions k []) ≤ MAX_KEYS

-- the starts of groups of neighbours, and the end of the last
pub record AreGroupStarts (groups partitions : ℕ) (starts : List ℕ) : Type 0 where
  pub count : length starts ≡ groups + 1
  pub first : slice_index starts 0 ≡ 0
  pub last : slice_index starts groups ≡ partitions
  pub rising : (k : ℕ) → k < groups → slice_index starts k ≤ slice_index starts (k + 1)
  pub within : (k : ℕ) → k ≤ groups → slice_index starts k ≤ partitions

-- one of the groups of few small partitions, and how it is searched: with some workers, but no more than there are
pub record IsGroupOf (partitions : List (List Record)) (starts : List ℕ) (group : ℕ) (all how : How) : Type 0 where
  pub few_partitions : length partitions ≤ MAX_PARTITIONS
  pub few_keys : FewKeys partitions
  pub bounds : AreGroupStarts (length starts - 1) (length partitions) starts
  pub within : group + 1 < length starts
  pub some_worker : 1 ≤ workers_of how
  pub few_workers : workers_of how ≤ workers_of all
  pub most_workers : workers_of all ≤ MAX_WORKERS
