-- The index of a complete attempt is valid.
use Rattle.std.specs.Prelude.{◌≡◌, ℕ, ◌^◌, ◌<◌, ◌≤◌, true, false, cond, ◌==◌}
use Rattle.std.specs.Prelude.{List, [], ◌∷◌, length, Ok, All}
use Rattle.std.specs.FinSet.{contains}
use Rattle.std.proofs.Common.{sym, ap, ◌∙◌, subst, arith, ⊎_elim}
use Rattle.std.proofs.lemmas.Bool.{cases_lt}
use Rattle.std.proofs.lemmas.List.{nil_from_length}
use Rattle.std.proofs.lemmas.List.Elements.{All-head, All-tail, All-nil, All-from_get_or}
use Rattle.std.proofs.lemmas.List.Sums.{length-filter, count_by-le-length}
use Rattle.pthash.specs.declared.TheConstants.{MAX_KEYS, MAX_PILOTS}
use Rattle.pthash.specs.declared.Record.{Record}
use Rattle.pthash.specs.ByBucket.{pilot_by_number}
use Rattle.pthash.specs.ByBucketLaws.{length-pilots_by_number, get_or-pilots_by_number}
use Rattle.pthash.specs.Order.{Bucket}
use Rattle.pthash.specs.Records.{records_of}
use Rattle.pthash.specs.RecordLaws.{length-records_of}
use Rattle.pthash.specs.Search.{SearchPlan, SearchState}
use Rattle.pthash.specs.SearchLaws.{IsReached, finished_search}
use Rattle.pthash.specs.Shapes.{ShapeData}
use Rattle.pthash.specs.SizeLaws.{table_size_of-some, table_size_of-none, bucket_count_of-none}
use Rattle.build_outcome.specs.Attempt.{Rules, AreRules, partition_plan, part_of}
use Rattle.build_outcome.specs.AttemptLaws.{parts_of, parts_of-HasParts}
use Rattle.build_outcome.specs.FreeListLaws.{free_list_of-rises, free_list_of-below}
use Rattle.build_outcome.specs.Index.{PartData}
use Rattle.build_outcome.specs.MarkLaws.{IsMark-mark_of}
use Rattle.build_outcome.specs.Outcome.{index_of}
use Rattle.build_outcome.specs.PartLaws.{IsFinished, HasFinished, finished_part, bucket_count, part_of-some, part_of-none, part_size-finished}
use Rattle.build_outcome.specs.ValueLaws.{HasParts, part_number, records_in, length-parts, part_of-records_in, key_count-records}
use Rattle.build_outcome.specs.Values.{part_at}
use Rattle.build_outcome.specs.Validity.{IsValidPart, IsValidIndex}

-- a pilot by number is one of the pilots, or 0
pilot_by_number-below : (buckets : List Bucket) (pilots : List ℕ) (limit number : ℕ) → 0 < limit → All (λ k. k < limit) pilots →
    pilot_by_number buckets pilots number < limit
pilot_by_number-below [] pilots limit number some below = some
pilot_by_number-below (bucket ∷ buckets) [] limit number some below = some
pilot_by_number-below (bucket ∷ buckets) (pilot ∷ pilots) limit number some below =
    elim (bucket.number == number) as (λ b. cond b pilot (pilot_by_number buckets pilots number) < limit) [
      | true ↦ All-head (λ k. k < limit) pilot pilots below
      | false ↦ pilot_by_number-below buckets pilots limit number some (All-tail (λ k. k < limit) pilot pilots below)
    ]

-- the pilots of a search are below its limit
pilots_below_limit : (plan : SearchPlan) (t : ℕ) (state : SearchState) → IsReached plan t state → All (λ k. k < plan.limit) state.pilots
pilots_below_limit plan t state reached =
    All-from_get_or (λ k. k < plan.limit) state.pilots 0 (λ rank within. (reached.least rank (omega (arith, reached.one_pilot_a_rank))).below)

-- the pilots of a partition whose search ended are below the most
pilots_are_below : (rules : Rules) (seed : ℕ) (records : List Record) (state : SearchState) → rules.limit ≤ MAX_PILOTS →
    IsFinished rules seed records state → All (λ k. k < MAX_PILOTS) (finished_part rules seed records state).pilots
pilots_are_below rules seed records state few finished =
    let plan : SearchPlan = partition_plan rules seed records in
    let m : ℕ = bucket_count rules records in
    let shape = finished.shape in
    let room : 1 ≤ plan.size = table_size_of-some (length records) rules.shape.alpha shape.alpha_low shape.alpha_high finished.some in
    let reached : IsReached plan (length plan.buckets) state = finished_search plan state room finished.ends in
    let pilots : List ℕ = (finished_part rules seed records state).pilots in
    let count : length pilots ≡ m = length-pilots_by_number plan.buckets state.pilots m in
    let most : All (λ k. k < MAX_PILOTS) state.pilots = λ i d within. omega (arith, pilots_below_limit plan (length plan.buckets) state reached i d within) in
    All-from_get_or (λ k. k < MAX_PILOTS) pilots 0
    (λ k within.
    subst (λ p. p < MAX_PILOTS) (sym (get_or-pilots_by_number plan.buckets state.pilots m k (omega arith)))
    (pilot_by_number-below plan.buckets state.pilots MAX_PILOTS k (omega arith) most))

-- a partition whose search ended is valid
valid_finished : (rules : Rules) (seed : ℕ) (records : List Record) (state : SearchState) → rules.limit ≤ MAX_PILOTS → length records ≤ MAX_KEYS →
    IsFinished rules seed records state → IsValidPart rules.shape (finished_part rules seed records state)
valid_finished rules seed records state few_pilots few_keys finished =
    let plan : SearchPlan = partition_plan rules seed records in
    record {
      few_keys = few_keys;
      pilot_count = length-pilots_by_number plan.buckets state.pilots (bucket_count rules records);
      pilots_are_below = pilots_are_below rules seed records state few_pilots finished;
      size = part_size-finished rules seed records state finished;
      free_rises = free_list_of-rises (contains state.taken) (length records) plan.size;
      free_is_below = free_list_of-below (contains state.taken) (length records) plan.size finished.some;
    }

-- the partition without a key is valid
valid_empty : (shape : ShapeData) → IsValidPart shape (record { n = 0; pilots = []; free = [] })
valid_empty shape = record {
  few_keys = omega arith;
  pilot_count = sym (bucket_count_of-none shape.c);
  pilots_are_below = All-nil (λ k. k < MAX_PILOTS);
  size = sym (table_size_of-none shape.alpha);
  free_rises = λ i j d before within. absurd (omega arith);
  free_is_below = All-nil (λ value. value < 0);
}

-- a partition that was built is valid
pub part_of-IsValidPart : (rules : Rules) (seed : ℕ) (records : List Record) (part : PartData) → AreRules rules → length records ≤ MAX_KEYS →
    part_of rules seed records ≡ Ok part → IsValidPart rules.shape part
part_of-IsValidPart rules seed records part ranges few ends =
    ⊎_elim
    (λ (some : 0 < length records).
    let has : HasFinished rules seed records part = part_of-some rules seed records part ranges.shape some ends in
    subst (IsValidPart rules.shape) has.is (valid_finished rules seed records has.state ranges.few_pilots few has.finished))
    (λ (none : length records ≤ 0).
    let empty : records ≡ [] = nil_from_length records (omega arith) in
    let same : part_of rules seed records ≡ Ok (record { n = 0; pilots = []; free = [] }) = ap (part_of rules seed) empty ∙ part_of-none rules seed in
    let is : (record { n = 0; pilots = []; free = [] }) ≡ part = cc in
    subst (IsValidPart rules.shape) is (valid_empty rules.shape))
    (cases_lt 0 (length records))

-- the index of a complete attempt is valid
pub index_of-IsValidIndex : (rules : Rules) (keys : List (List ℕ)) (seed : ℕ) (parts : List PartData) → AreRules rules → seed < 2 ^ 64 →
    1 ≤ length keys → length keys ≤ MAX_KEYS → parts_of rules keys seed ≡ Ok parts → IsValidIndex (index_of rules keys seed parts)
index_of-IsValidIndex rules keys seed parts ranges seed_fits some few ends =
    let records : List Record = records_of keys seed in
    let has : HasParts rules seed records parts = parts_of-HasParts rules keys seed parts ranges ends in
    let count : length records ≡ length keys = length-records_of keys seed in
    let part_count : length parts ≡ rules.parts = length-parts rules seed records parts has in
    let some_part : 1 ≤ rules.parts = ranges.some_part in
    record {
      seed = seed_fits;
      some_key = some;
      few_keys = few;
      shape = ranges.shape;
      some_part = omega arith;
      few_parts = omega (arith, ranges.few_parts);
      counted = key_count-records rules seed records parts has ∙ count;
      parts = All-from_get_or (IsValidPart rules.shape) parts (record { n = 0; pilots = []; free = [] })
          (λ q within.
          let theirs : List Record = records_in records rules.parts q in
          let fewer : length theirs ≤ length records =
          omega (arith, length-filter (λ r. part_number rules.parts r == q) records, count_by-le-length (λ r. part_number rules.parts r == q) records) in
          part_of-IsValidPart rules seed theirs (part_at parts q) ranges (omega arith) (part_of-records_in rules seed records parts q has (omega arith)));
      mark = IsMark-mark_of keys seed;
      unmarked_is_skewed = λ none. absurd cc;
    }
