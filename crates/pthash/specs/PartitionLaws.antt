-- What is known of the records of a list, cut by partition.
use Rattle.std.specs.Prelude.{◌≡◌, ℕ, ◌<◌, ◌≤◌, ◌==◌, List, [], length, filter, sum_by, slice_index_or, All}
use Rattle.std.proofs.Common.{ap, ◌∙◌, get_or, arith}
use Rattle.std.proofs.lemmas.List.{length-map, get_or-map}
use Rattle.pthash.specs.declared.Record.{Record}
use Rattle.pthash.specs.Sizes.{partition_of}
use Rattle.pthash.specs.SizeLaws.{partition_of-lt}
use Rattle.pthash.specs.Order.{numbers_below}
use Rattle.pthash.specs.OrderLaws.{length-numbers_below, get_or-numbers_below}
use Rattle.pthash.specs.RecordLaws.{HashesFit}
use Rattle.pthash.specs.Classes.{sum_by-map, length-classes}
use Rattle.pthash.specs.Partitions.{partitions_of}

-- there are this many partitions
pub length-partitions_of : (records : List Record) (parts : ℕ) → length (partitions_of records parts) ≡ parts
unfolding partitions_of
length-partitions_of records parts =
    length-map (numbers_below parts) (λ part. filter (λ r. partition_of r.a r.b parts == part) records) ∙ length-numbers_below parts

-- a partition has the records of the pairs that go to it, in the order of the list
pub partition_at : (records : List Record) (parts q : ℕ) → q < parts
    → slice_index_or (partitions_of records parts) q [] ≡ filter (λ r. partition_of r.a r.b parts == q) records
unfolding partitions_of
partition_at records parts q below =
    let held : ℕ → List Record = λ part. filter (λ r. partition_of r.a r.b parts == part) records in
    get_or-map held (numbers_below parts) q 0 [] (omega (arith, length-numbers_below parts))
    ∙ ap held (get_or-numbers_below parts q below)

-- each record has a partition
pub All-partition_of-lt : (records : List Record) (parts : ℕ) → 1 ≤ parts → All HashesFit records →
    All (λ r. partition_of r.a r.b parts < parts) records
All-partition_of-lt records parts some fit i d within =
    let r = get_or records i d in
    let fits : HashesFit r = fit i d within in
    partition_of-lt r.a r.b parts fits.a fits.b some

-- the partitions have all records
pub partitions_add_up : (records : List Record) (parts : ℕ) → 1 ≤ parts → All HashesFit records →
    sum_by length (partitions_of records parts) ≡ length records
unfolding partitions_of
partitions_add_up records parts some fit =
    sum_by-map length (λ part. filter (λ r. partition_of r.a r.b parts == part) records) (numbers_below parts)
    ∙ length-classes (λ r. partition_of r.a r.b parts) parts records (All-partition_of-lt records parts some fit)
