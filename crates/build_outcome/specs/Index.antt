-- An index as a value: what a build gives, and what an index file holds.
use Rattle.std.specs.Prelude.{ℕ, List, Option}
use Rattle.pthash.specs.Shapes.{ShapeData}

-- a partition that was built: how many keys it has, the pilots of its buckets by number, and its free list
pub record PartData : Type 0 where
  pub n : ℕ
  pub pilots : List ℕ
  pub free : List ℕ

-- the mark of a list of keys at a seed: the sum of the first hashes and the xor of the second hashes
pub record KeyMarkData : Type 0 where
  pub sum : ℕ
  pub xor : ℕ

-- an index: its seed, how many keys it has, its shape, its partitions, and the mark of its keys if it has one
pub record IndexData : Type 0 where
  pub seed : ℕ
  pub n : ℕ
  pub shape : ShapeData
  pub parts : List PartData
  pub mark : Option KeyMarkData
