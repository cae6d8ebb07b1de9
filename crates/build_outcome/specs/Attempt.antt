-- What an attempt at one seed comes to, partition by partition.
use Rattle.std.specs.Prelude.{ℕ, ◌+◌, ◌≤◌, List, [], ◌∷◌, length, Option, Some, None, Result, Ok, Err}
use Rattle.std.specs.FinSet.{contains}
use Rattle.pthash.specs.declared.Record.{Record}
use Rattle.pthash.specs.declared.TheConstants.{MAX_PARTITIONS, MAX_PILOTS}
use Rattle.pthash.specs.ByBucket.{pilots_by_number}
use Rattle.pthash.specs.Order.{order_of, bucket_at}
use Rattle.pthash.specs.Partitions.{partitions_of}
use Rattle.pthash.specs.Records.{records_of}
use Rattle.pthash.specs.Search.{SearchPlan, SearchState, search_of}
use Rattle.pthash.specs.Shapes.{ShapeData, IsShape}
use Rattle.pthash.specs.Sizes.{table_size_of, bucket_count_of}
use Rattle.build_outcome.specs.Clash.{clash_of}
use Rattle.build_outcome.specs.FreeList.{free_list_of}
use Rattle.build_outcome.specs.Index.{PartData}

-- the settings that an outcome depends on: the shape, the number of partitions, the pilots to try
pub record Rules : Type 0 where
  pub shape : ShapeData
  pub parts : ℕ
  pub limit : ℕ

-- the rules are in their ranges
pub record AreRules (rules : Rules) : Type 0 where
  pub shape : IsShape rules.shape
  pub some_part : 1 ≤ rules.parts
  pub few_parts : rules.parts ≤ MAX_PARTITIONS
  pub some_pilot : 1 ≤ rules.limit
  pub few_pilots : rules.limit ≤ MAX_PILOTS

-- what the search for a partition with these records is given
abbrev pub partition_plan : Rules → ℕ → List Record → SearchPlan
partition_plan rules seed records = record {
  seed = seed;
  size = table_size_of (length records) rules.shape.alpha;
  limit = rules.limit;
  buckets = order_of records rules.shape.map (bucket_count_of (length records) rules.shape.c);
}

-- a partition of n keys in m buckets whose search ended in this state
abbrev pub completed : ℕ → ℕ → SearchPlan → SearchState → PartData
completed n m plan state = record {
  n = n;
  pilots = pilots_by_number plan.buckets state.pilots m;
  free = free_list_of (contains state.taken) n plan.size;
}

-- the end of a search for n keys in m buckets: the partition, or the number of the bucket that has no pilot
abbrev pub searched : ℕ → ℕ → SearchPlan → Result SearchState ℕ → Result PartData ℕ
searched n m plan (Ok state) = Ok (completed n m plan state)
searched n m plan (Err rank) = Err (bucket_at plan.buckets rank).number

-- the partition with these records, or the number of the bucket that has no pilot; an empty one has nothing to search
unfoldable pub part_of : Rules → ℕ → List Record → Result PartData ℕ
part_of rules seed [] = Ok (record { n = 0; pilots = []; free = [] })
part_of rules seed (r ∷ records) =
    searched (length (r ∷ records)) (bucket_count_of (length (r ∷ records)) rules.shape.c) (partition_plan rules seed (r ∷ records))
    (search_of (partition_plan rules seed (r ∷ records)))

-- a partition before others: the first that is stuck decides, as (its number, the bucket's number)
abbrev pub before_parts : ℕ → Result PartData ℕ → Result (List PartData) (ℕ × ℕ) → Result (List PartData) (ℕ × ℕ)
before_parts number (Err bucket) more = Err (number, bucket)
before_parts number (Ok built) (Err stuck) = Err stuck
before_parts number (Ok built) (Ok more) = Ok (built ∷ more)

-- the partitions with these records, numbered from this one on
abbrev pub parts_from : Rules → ℕ → ℕ → List (List Record) → Result (List PartData) (ℕ × ℕ)
parts_from rules seed number [] = Ok []
parts_from rules seed number (records ∷ more) =
    before_parts number (part_of rules seed records) (parts_from rules seed (number + 1) more)

-- the ways in which an attempt ends
pub data Attempt : Type 0 where
  clashed : ℕ → ℕ → Attempt
  stuck : ℕ → ℕ → Attempt
  complete : List PartData → Attempt

-- an attempt without a clash ends as its partitions do
abbrev pub by_parts : Result (List PartData) (ℕ × ℕ) → Attempt
by_parts (Ok parts) = complete parts
by_parts (Err e) = stuck e.0 e.1

-- a clash comes before any partition
abbrev pub unless_clash : Option (ℕ × ℕ) → Attempt → Attempt
unless_clash None otherwise = otherwise
unless_clash (Some c) otherwise = clashed c.0 c.1

-- the attempt at a seed
unfoldable pub attempt_of : Rules → List (List ℕ) → ℕ → Attempt
attempt_of rules keys seed =
    unless_clash (clash_of keys seed)
    (by_parts (parts_from rules seed 0 (partitions_of (records_of keys seed) rules.parts)))
