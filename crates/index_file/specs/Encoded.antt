-- An index with its encoding.
use Rattle.std.specs.Prelude.{ℕ, List, length, Some}
use Rattle.pilot_codecs.specs.declared.code.Encoding.{Encoding}
use Rattle.pthash.specs.Hash.{first_hash, second_hash}
use Rattle.pthash.specs.Sizes.{partition_of}
use Rattle.build_outcome.specs.Index.{KeyMarkData, IndexData}
use Rattle.build_outcome.specs.Values.{part_at}

-- an index and the encoding of its pilots
pub record EncodedIndex : Type 0 where
  pub index : IndexData
  pub enc : Encoding

-- an index with another mark
abbrev pub marked : IndexData → KeyMarkData → IndexData
marked x mark = record x { mark = Some mark }

-- how many keys the partition of a key has
abbrev pub keys_beside : IndexData → List ℕ → ℕ
keys_beside x key = (part_at x.parts (partition_of (first_hash key x.seed) (second_hash key x.seed) (length x.parts))).n
