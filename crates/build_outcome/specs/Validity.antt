-- What holds of each index that a build gives and that an index file may hold.
use Rattle.std.specs.Prelude.{◌≡◌, ◌^◌, ◌<◌, ◌≤◌, length, All, None, IfSome}
use Rattle.std.specs.List.Sorted.{IsNonDecreasing}
use Rattle.pthash.specs.declared.TheConstants.{MAX_KEYS, MAX_PARTITIONS, MAX_PILOTS}
use Rattle.pthash.specs.declared.Map.TheVariants.{Skewed}
use Rattle.pthash.specs.Shapes.{ShapeData, IsShape}
use Rattle.pthash.specs.Sizes.{table_size_of, bucket_count_of}
use Rattle.build_outcome.specs.Index.{PartData, KeyMarkData, IndexData}
use Rattle.build_outcome.specs.Values.{part_size, key_count}

-- a partition has as many pilots and free entries as its keys ask for; an empty one has none of either
pub record IsValidPart (shape : ShapeData) (part : PartData) : Type 0 where
  pub few_keys : part.n ≤ MAX_KEYS
  pub pilot_count : length part.pilots ≡ bucket_count_of part.n shape.c
  pub pilots_are_below : All (λ k. k < MAX_PILOTS) part.pilots
  pub size : part_size part ≡ table_size_of part.n shape.alpha
  pub free_rises : IsNonDecreasing part.free
  pub free_is_below : All (λ value. value < part.n) part.free

-- both numbers of a mark fit 64 bits
pub record IsMark (mark : KeyMarkData) : Type 0 where
  pub sum : mark.sum < 2 ^ 64
  pub xor : mark.xor < 2 ^ 64

-- an index is valid; without a mark its map is the skewed one
pub record IsValidIndex (x : IndexData) : Type 0 where
  pub seed : x.seed < 2 ^ 64
  pub some_key : 1 ≤ x.n
  pub few_keys : x.n ≤ MAX_KEYS
  pub shape : IsShape x.shape
  pub some_part : 1 ≤ length x.parts
  pub few_parts : length x.parts ≤ MAX_PARTITIONS
  pub counted : key_count x.parts ≡ x.n
  pub parts : All (IsValidPart x.shape) x.parts
  pub mark : IfSome x.mark IsMark
  pub unmarked_is_skewed : x.mark ≡ None → x.shape.map ≡ Skewed
