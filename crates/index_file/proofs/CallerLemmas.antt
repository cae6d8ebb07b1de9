-- What crates above use: a mark changes no value.
use Rattle.std.specs.Prelude.{◌≡◌, ℕ, List}
use Rattle.std.proofs.Common.{refl}
use Rattle.build_outcome.specs.Index.{KeyMarkData, IndexData}
use Rattle.build_outcome.specs.Values.{value_of}
use Rattle.index_file.specs.Encoded.{marked}

-- an index with another mark gives each key the same value
pub value_of-marked : (x : IndexData) (mark : KeyMarkData) (key : List ℕ) → value_of (marked x mark) key ≡ value_of x key
unfolding value_of
value_of-marked x mark key = refl
