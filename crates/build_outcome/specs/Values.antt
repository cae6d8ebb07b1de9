-- The number that an index gives a key.
use Rattle.std.specs.Prelude.{ℕ, ◌+◌, ◌-◌, ◌==◌, nat_lt, List, [], length, take, sum_by, slice_index, slice_index_or, if◌then◌else◌, Option}
use Rattle.std.specs.Prelude.{Some, None, option_map}
use Rattle.pthash.specs.declared.Map.{Map}
use Rattle.pthash.specs.Hash.{first_hash, second_hash}
use Rattle.pthash.specs.Sizes.{bucket_of, partition_of}
use Rattle.pthash.specs.Search.{position_of}
use Rattle.build_outcome.specs.Index.{PartData, IndexData}

-- the number of positions of a partition's table: one for each key and one for each entry of the free list
abbrev pub part_size : PartData → ℕ
part_size part = part.n + length part.free

-- the value of a position in a partition of n keys: a position behind them is sent to its free entry
abbrev pub position_value : ℕ → List ℕ → ℕ → ℕ
position_value n free p = if nat_lt p n then p else slice_index free (p - n)

-- the position of a pair of hashes in a partition
abbrev pub pair_position : Map → ℕ → PartData → ℕ → ℕ → ℕ
pair_position spread seed part a b =
    position_of seed (part_size part) (slice_index part.pilots (bucket_of spread a (length part.pilots))) b

-- the value of a pair of hashes in a partition; an empty partition has none
abbrev pub part_value : Map → ℕ → PartData → ℕ → ℕ → Option ℕ
part_value spread seed part a b =
    if part.n == 0 then None else Some (position_value part.n part.free (pair_position spread seed part a b))

-- the partition with this number
abbrev pub part_at : List PartData → ℕ → PartData
part_at parts q = slice_index_or parts q (record { n = 0; pilots = []; free = [] })

-- the keys of partitions, counted
abbrev pub key_count : List PartData → ℕ
key_count parts = sum_by (λ part. part.n) parts

-- the value of a pair of hashes in an index: its value in its partition, after the keys of the partitions before
abbrev pub pair_value : IndexData → ℕ → ℕ → Option ℕ
pair_value x a b =
    let q = partition_of a b (length x.parts) in
    option_map (λ v. key_count (take q x.parts) + v) (part_value x.shape.map x.seed (part_at x.parts q) a b)

-- the value of a key in an index, if its partition has a key
unfoldable pub value_of : IndexData → List ℕ → Option ℕ
value_of x key = pair_value x (first_hash key x.seed) (second_hash key x.seed)
