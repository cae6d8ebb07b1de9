-- A partition alone: the rules for it, and what holds of the numbers that it gives.
use Rattle.std.specs.Prelude.{◌≡◌, ℕ, ◌<◌, true, List, [], ◌∷◌, length, map, All, Ok, Err}
use Rattle.std.proofs.Common.{refl, ap, subst, arith}
use Rattle.pthash.specs.declared.Map.{Map}
use Rattle.pthash.specs.declared.Record.{Record}
use Rattle.pthash.specs.Order.{bucket_at}
use Rattle.pthash.specs.Search.{SearchState, is_distinct, search_of}
use Rattle.pthash.specs.Shapes.{ShapeData, IsShape}
use Rattle.build_outcome.specs.Attempt.{Rules, partition_plan, searched, part_of}
use Rattle.build_outcome.specs.Index.{PartData}
use Rattle.build_outcome.specs.PartLaws.{bucket_count, finished_part, IsFinished, HasFinished, part_of-some}
use Rattle.build_outcome.specs.PartLaws.{pair_number, pair_numbers_differ, pair_number-below}

-- the rules for one partition of this shape, with so many pilots to try
abbrev pub one_part : ShapeData → ℕ → Rules
one_part shape limit = record { shape = shape; parts = 1; limit = limit }

-- a partition among any number of them is built as one alone
pub part_of-one_part : (rules : Rules) (seed : ℕ) (records : List Record) →
    part_of rules seed records ≡ part_of (one_part rules.shape rules.limit) seed records
unfolding part_of
part_of-one_part rules seed [] = refl
part_of-one_part rules seed (r ∷ records) = refl

-- a search that ended gives a partition
pub part_of-finished : (rules : Rules) (seed : ℕ) (records : List Record) (state : SearchState) → IsFinished rules seed records state →
    part_of rules seed records ≡ Ok (finished_part rules seed records state)
unfolding part_of
part_of-finished rules seed [] state finished = absurd (omega (arith, finished.some))
part_of-finished rules seed (r ∷ records) state finished =
    ap (searched (length (r ∷ records)) (bucket_count rules (r ∷ records)) (partition_plan rules seed (r ∷ records))) finished.ends

-- a search that is stuck gives the number of the bucket
pub part_of-stuck : (rules : Rules) (seed rank : ℕ) (records : List Record) → 0 < length records →
    search_of (partition_plan rules seed records) ≡ Err rank →
    part_of rules seed records ≡ Err (bucket_at (partition_plan rules seed records).buckets rank).number
unfolding part_of
part_of-stuck rules seed rank [] some stuck = absurd (omega arith)
part_of-stuck rules seed rank (r ∷ records) some stuck =
    ap (searched (length (r ∷ records)) (bucket_count rules (r ∷ records)) (partition_plan rules seed (r ∷ records))) stuck

-- each record has a number of its own in a partition, below the number of its keys
pub record HaveOwnNumbers (spread : Map) (seed : ℕ) (part : PartData) (records : List Record) : Type 0 where
  pub distinct : is_distinct (map (λ r. pair_number spread seed part r.a r.b) records) ≡ true
  pub below : All (λ r. pair_number spread seed part r.a r.b < part.n) records

-- the records of a partition that was built have numbers of their own in it
pub part_of-HaveOwnNumbers : (rules : Rules) (seed : ℕ) (records : List Record) (part : PartData) → IsShape rules.shape →
    part_of rules seed records ≡ Ok part → HaveOwnNumbers rules.shape.map seed part records
part_of-HaveOwnNumbers rules seed [] part shape gives = record { distinct = refl; below = λ i d within. absurd (omega arith) }
part_of-HaveOwnNumbers rules seed (r ∷ records) part shape gives =
    let finished : HasFinished rules seed (r ∷ records) part = part_of-some rules seed (r ∷ records) part shape (omega arith) gives in
    subst (λ p. HaveOwnNumbers rules.shape.map seed p (r ∷ records)) finished.is
    (record {
      distinct = pair_numbers_differ rules seed (r ∷ records) finished.state finished.finished;
      below = λ i d within. pair_number-below rules seed (r ∷ records) finished.state finished.finished _ _;
    })
