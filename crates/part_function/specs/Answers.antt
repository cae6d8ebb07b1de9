-- What the build of a partition answers.
use Rattle.std.specs.Prelude.{◌≡◌, ℕ, List, Result, Ok, Err, IfOk, IfErr}
use Rattle.pthash.specs.declared.Record.{Record}
use Rattle.pthash.specs.Shapes.{ShapeData}
use Rattle.pilot_search.specs.declared.placing.Stuck.{Stuck}
use Rattle.pilot_search.specs.Outcome.{IsStuckAt}
use Rattle.build_outcome.specs.Attempt.{Rules, partition_plan, part_of}
use Rattle.build_outcome.specs.Index.{PartData}
use Rattle.build_outcome.specs.OnePart.{one_part, HaveOwnNumbers}

-- the search for these records is stuck there, and so they have no partition
pub record IsPartStuckAt (rules : Rules) (seed : ℕ) (records : List Record) (stuck : Stuck) : Type 0 where
  pub search : IsStuckAt (partition_plan rules seed records) stuck
  pub no_part : part_of rules seed records ≡ Err stuck.bucket

-- the partition of these records, whose numbers are pairwise different, or the bucket at which their search is stuck
pub record IsPartAnswer (shape : ShapeData) (limit seed : ℕ) (records : List Record) (answer : Result PartData Stuck) : Type 0 where
  pub part : IfOk answer (λ part. part_of (one_part shape limit) seed records ≡ Ok part)
  pub numbers : IfOk answer (λ part. HaveOwnNumbers shape.map seed part records)
  pub stuck : IfErr answer (λ stuck. IsPartStuckAt (one_part shape limit) seed records stuck)
