-- An attempt, from its partitions.
use Rattle.std.proofs.Common.{◌≡◌, ℕ, ◌<◌, ◌≤◌, Bool, List, [], length, Option, Some, None, Err, sym, ap, ◌∙◌, arith}
use Rattle.std.specs.Prelude.{slice_index_or, ◌==◌}
use Rattle.std.proofs.lemmas.List.Sums.{length-filter, count_by-le-length}
use Rattle.pthash.specs.declared.Record.{Record}
use Rattle.pthash.specs.declared.TheConstants.{MAX_KEYS}
use Rattle.pthash.specs.PartitionLaws.{length-partitions_of, partition_at}
use Rattle.pthash.specs.Partitions.{partitions_of}
use Rattle.pthash.specs.Records.{records_of}
use Rattle.pthash.specs.RecordLaws.{length-records_of}
use Rattle.pthash.specs.Sizes.{partition_of}
use Rattle.build_outcome.specs.Attempt.{Rules, clashed, stuck, attempt_of, unless_clash}
use Rattle.build_outcome.specs.AttemptLaws.{parts_of, attempt_of-stuck}
use Rattle.build_outcome.specs.Clash.{clash_of}
use Rattle.hem_build.specs.Starts.{FewKeys}

-- no partition has more records than the list
partition_fits : (records : List Record) (parts part : ℕ) → part < parts →
    length (slice_index_or (partitions_of records parts) part []) ≤ length records
partition_fits records parts part within =
    let test : Record → Bool = λ r. partition_of r.a r.b parts == part in
    omega (arith, ap length (partition_at records parts part within), length-filter test records, count_by-le-length test records)

-- the partitions of a list of keys are few enough and small enough
pub record ArePartitionsOf (keys : List (List ℕ)) (seed parts : ℕ) (partitions : List (List Record)) : Type 0 where
  pub count : length partitions ≡ parts
  pub few_keys : FewKeys partitions

-- records that are cut are such partitions
pub partitions_of_keys : (keys : List (List ℕ)) (seed parts : ℕ) (records : List Record) (partitions : List (List Record)) → length keys ≤ MAX_KEYS →
    records ≡ records_of keys seed → partitions ≡ partitions_of records parts → ArePartitionsOf keys seed parts partitions
partitions_of_keys keys seed parts records partitions few are cut =
    let count : length partitions ≡ parts = ap length cut ∙ length-partitions_of records parts in
    let all : length records ≡ length keys = ap length are ∙ length-records_of keys seed in
    record {
      count = count;
      few_keys = λ k within.
          let same : length (slice_index_or partitions k []) ≡ length (slice_index_or (partitions_of records parts) k []) =
          ap (λ (ps : List (List Record)). length (slice_index_or ps k [])) cut in
          omega (arith, partition_fits records parts k (omega arith));
    }

-- a stuck partition and a clash
pub clashed_attempt : (rules : Rules) (keys : List (List ℕ)) (seed part bucket i j : ℕ) (answer : Option (ℕ × ℕ)) →
    parts_of rules keys seed ≡ Err (part, bucket) → answer ≡ clash_of keys seed → answer ≡ Some (i, j) → clashed i j ≡ attempt_of rules keys seed
clashed_attempt rules keys seed part bucket i j answer ends is found =
    sym (attempt_of-stuck rules keys seed part bucket ends ∙ ap (λ c. unless_clash c (stuck part bucket)) (sym is ∙ found))

-- a stuck partition and no clash
pub stuck_attempt : (rules : Rules) (keys : List (List ℕ)) (seed part bucket : ℕ) (answer : Option (ℕ × ℕ)) →
    parts_of rules keys seed ≡ Err (part, bucket) → answer ≡ clash_of keys seed → answer ≡ None → stuck part bucket ≡ attempt_of rules keys seed
stuck_attempt rules keys seed part bucket answer ends is none =
    sym (attempt_of-stuck rules keys seed part bucket ends ∙ ap (λ c. unless_clash c (stuck part bucket)) (sym is ∙ none))
