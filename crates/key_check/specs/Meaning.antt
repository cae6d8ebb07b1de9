-- What it means that a check ends well.
use Rattle.std.specs.Prelude.{◌≡◌, ℕ, List, length, IfSome}
use Rattle.build_outcome.specs.Index.{KeyMarkData, IndexData}
use Rattle.build_outcome.specs.IndexLaws.{IsOneToOne}
use Rattle.build_outcome.specs.Mark.{mark_of}

-- the lines have the numbers below n as values, each its own; this is their mark, and the index keeps no other
pub record IsGood (x : IndexData) (lines : List (List ℕ)) (mark : KeyMarkData) : Type 0 where
  pub one_to_one : IsOneToOne x lines
  pub all : length lines ≡ x.n
  pub marked : mark ≡ mark_of lines x.seed
  pub kept : IfSome x.mark (λ kept. kept ≡ mark)
