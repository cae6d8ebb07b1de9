-- What is known of a partition whose search ended: each of its records has a value of its own below their number.
use Rattle.std.specs.Prelude.{◌≡◌, ℕ, ◌<◌, ◌≤◌, Bool, true, false, ◌&&◌, ◌==◌, nat_lt}
use Rattle.std.specs.Prelude.{List, [], ◌∷◌, length, map, slice_index, Some, Result, Ok, Err}
use Rattle.std.specs.FinSet.{contains}
use Rattle.std.specs.List.{list_all}
use Rattle.std.proofs.Common.{refl, sym, ap, ◌∙◌, arith}
use Rattle.std.proofs.lemmas.Bool.{and_parts, and_from, ltb-true, ne_eqb}
use Rattle.std.proofs.lemmas.List.Folds.{list_all-map}
use Rattle.std.proofs.lemmas.Simd.{map-map}
use Rattle.pthash.specs.declared.Map.{Map}
use Rattle.pthash.specs.declared.Record.{Record}
use Rattle.pthash.specs.declared.TheConstants.{MAX_KEYS}
use Rattle.pthash.specs.Apart.{is_distinct-map_where}
use Rattle.pthash.specs.ByBucket.{pilot_by_number}
use Rattle.pthash.specs.ByBucketLaws.{length-pilots_by_number, get_or-pilots_by_number}
use Rattle.pthash.specs.Order.{order_of, member_count}
use Rattle.pthash.specs.OrderLaws.{member_count-order_of, no_empty_bucket}
use Rattle.pthash.specs.Search.{IsSearchable, SearchPlan, SearchState, position_of, is_distinct, search_of}
use Rattle.pthash.specs.SearchLaws.{IsReached, finished_search}
use Rattle.pthash.specs.SearchOrder.{AreBucketsOf-order_of}
use Rattle.pthash.specs.SearchPositions.{AreBucketsOf, found_position, found_are_distinct, found_are_below, found_are_taken, count_of_taken}
use Rattle.pthash.specs.Shapes.{IsShape}
use Rattle.pthash.specs.Sizes.{table_size_of, bucket_count_of, bucket_of}
use Rattle.pthash.specs.SizeLaws.{bucket_of-lt, le-table_size_of, table_size_of-some, table_size_of-le, bucket_count_of-some}
use Rattle.build_outcome.specs.Attempt.{Rules, AreRules, partition_plan, completed, searched, part_of}
use Rattle.build_outcome.specs.FreeListLaws.{TakesCount, length-free_list_of, position_value-below, position_value-differs}
use Rattle.build_outcome.specs.Index.{PartData}
use Rattle.build_outcome.specs.Values.{part_size, position_value, pair_position, part_value}

-- the number of buckets of these records
abbrev pub bucket_count : Rules → List Record → ℕ
bucket_count rules records = bucket_count_of (length records) rules.shape.c

-- the number of the bucket of a record among these
abbrev pub bucket_number : Rules → List Record → Record → ℕ
bucket_number rules records r = bucket_of rules.shape.map r.a (bucket_count rules records)

-- the search for some records may rely on what each search may
pub partition_plan-IsSearchable : (rules : Rules) (seed : ℕ) (records : List Record) → AreRules rules → 0 < length records →
    length records ≤ MAX_KEYS → IsSearchable (partition_plan rules seed records)
partition_plan-IsSearchable rules seed records ranges some few =
    let shape = ranges.shape in
    let n : ℕ = length records in
    let m : ℕ = bucket_count rules records in
    let some_bucket : 1 ≤ m = bucket_count_of-some n rules.shape.c shape.c_low some in
    let members : member_count (order_of records rules.shape.map m) ≡ n = member_count-order_of records rules.shape.map m some_bucket in
    let room : n ≤ table_size_of n rules.shape.alpha = le-table_size_of n rules.shape.alpha shape.alpha_low shape.alpha_high in
    record {
      has_position = table_size_of-some n rules.shape.alpha shape.alpha_low shape.alpha_high some;
      size_bound = table_size_of-le n rules.shape.alpha shape.alpha_low few;
      has_pilot = ranges.some_pilot;
      limit_bound = omega (arith, ranges.few_pilots);
      members_fit = omega arith;
      no_empty = no_empty_bucket records rules.shape.map m;
    }

-- the partition with these records whose search ended in this state
abbrev pub finished_part : Rules → ℕ → List Record → SearchState → PartData
finished_part rules seed records state = completed (length records) (bucket_count rules records) (partition_plan rules seed records) state

-- a search for some records ended in this state
pub record IsFinished (rules : Rules) (seed : ℕ) (records : List Record) (state : SearchState) : Type 0 where
  pub shape : IsShape rules.shape
  pub some : 0 < length records
  pub ends : search_of (partition_plan rules seed records) ≡ Ok state

-- a partition is that of a search that ended
pub record HasFinished (rules : Rules) (seed : ℕ) (records : List Record) (part : PartData) : Type 0 where
  pub state : SearchState
  pub finished : IsFinished rules seed records state
  pub is : finished_part rules seed records state ≡ part

-- the state of a search that gave a partition
finished_by : (rules : Rules) (seed : ℕ) (records : List Record) (part : PartData) (answer : Result SearchState ℕ) → IsShape rules.shape →
    0 < length records → search_of (partition_plan rules seed records) ≡ answer →
    searched (length records) (bucket_count rules records) (partition_plan rules seed records) answer ≡ Ok part →
    HasFinished rules seed records part
finished_by rules seed records part (Err rank) shape some ends gives = absurd cc
finished_by rules seed records part (Ok state) shape some ends gives =
    record { state = state; finished = record { shape = shape; some = some; ends = ends }; is = cc }

-- a partition of some records comes from a search that ended
pub part_of-some : (rules : Rules) (seed : ℕ) (records : List Record) (part : PartData) → IsShape rules.shape → 0 < length records →
    part_of rules seed records ≡ Ok part → HasFinished rules seed records part
unfolding part_of
part_of-some rules seed [] part shape some gives = absurd (omega arith)
part_of-some rules seed (r ∷ records) part shape some gives =
    finished_by rules seed (r ∷ records) part (search_of (partition_plan rules seed (r ∷ records))) shape some refl gives

-- the partition of no record is empty
pub part_of-none : (rules : Rules) (seed : ℕ) → part_of rules seed [] ≡ Ok (record { n = 0; pilots = []; free = [] })
unfolding part_of
part_of-none rules seed = refl

-- what holds of the search for some records
record IsKnown (rules : Rules) (seed : ℕ) (records : List Record) (state : SearchState) : Type 0 where
  some_bucket : 1 ≤ bucket_count rules records
  room : 1 ≤ (partition_plan rules seed records).size
  fits : length records ≤ (partition_plan rules seed records).size
  reached : IsReached (partition_plan rules seed records) (length (partition_plan rules seed records).buckets) state
  buckets : AreBucketsOf (bucket_number rules records) records (partition_plan rules seed records).buckets

-- all of it holds where the search ended
known : (rules : Rules) (seed : ℕ) (records : List Record) (state : SearchState) → IsFinished rules seed records state → IsKnown rules seed records state
known rules seed records state finished =
    let shape = finished.shape in
    let m : ℕ = bucket_count rules records in
    let some_bucket : 1 ≤ m = bucket_count_of-some (length records) rules.shape.c shape.c_low finished.some in
    let room : 1 ≤ table_size_of (length records) rules.shape.alpha =
    table_size_of-some (length records) rules.shape.alpha shape.alpha_low shape.alpha_high finished.some in
    record {
      some_bucket = some_bucket;
      room = room;
      fits = le-table_size_of (length records) rules.shape.alpha shape.alpha_low shape.alpha_high;
      reached = finished_search (partition_plan rules seed records) state room finished.ends;
      buckets = AreBucketsOf-order_of records rules.shape.map m some_bucket;
    }

-- as many positions of the table are taken as there are records
pub takes_count : (rules : Rules) (seed : ℕ) (records : List Record) (state : SearchState) → IsFinished rules seed records state →
    TakesCount (contains state.taken) (length records) (partition_plan rules seed records).size
takes_count rules seed records state finished =
    let facts : IsKnown rules seed records state = known rules seed records state finished in
    record {
      fits = facts.fits;
      count = count_of_taken (partition_plan rules seed records) state (bucket_number rules records) records facts.reached facts.buckets;
    }

-- the partition has the size of its records' table
pub part_size-finished : (rules : Rules) (seed : ℕ) (records : List Record) (state : SearchState) → IsFinished rules seed records state →
    part_size (finished_part rules seed records state) ≡ table_size_of (length records) rules.shape.alpha
part_size-finished rules seed records state finished =
    let facts : IsKnown rules seed records state = known rules seed records state finished in
    omega (arith, length-free_list_of (contains state.taken) (length records) (table_size_of (length records) rules.shape.alpha), facts.fits)

-- the position of a record in the partition is the one that the search found
pub pair_position-finished : (rules : Rules) (seed : ℕ) (records : List Record) (state : SearchState) → IsFinished rules seed records state →
    (r : Record) → pair_position rules.shape.map seed (finished_part rules seed records state) r.a r.b
    ≡ found_position (partition_plan rules seed records) state (bucket_number rules records) r
pair_position-finished rules seed records state finished r =
    let facts : IsKnown rules seed records state = known rules seed records state finished in
    let m : ℕ = bucket_count rules records in
    let part : PartData = finished_part rules seed records state in
    let count : length part.pilots ≡ m = length-pilots_by_number (partition_plan rules seed records).buckets state.pilots m in
    let number : ℕ = bucket_number rules records r in
    let pilot : slice_index part.pilots number ≡ pilot_by_number (partition_plan rules seed records).buckets state.pilots number =
    get_or-pilots_by_number (partition_plan rules seed records).buckets state.pilots m number (bucket_of-lt rules.shape.map r.a m facts.some_bucket) in
    ap (λ size. position_of seed size (slice_index part.pilots (bucket_of rules.shape.map r.a (length part.pilots))) r.b)
    (part_size-finished rules seed records state finished)
    ∙ ap (λ k. position_of seed (table_size_of (length records) rules.shape.alpha) (slice_index part.pilots (bucket_of rules.shape.map r.a k)) r.b) count
    ∙ ap (λ k. position_of seed (table_size_of (length records) rules.shape.alpha) k r.b) pilot

-- the number of a pair of hashes in a partition that has a key
abbrev pub pair_number : Map → ℕ → PartData → ℕ → ℕ → ℕ
pair_number spread seed part a b = position_value part.n part.free (pair_position spread seed part a b)

-- a partition that has a key gives each pair its number
pub part_value-some : (spread : Map) (seed : ℕ) (part : PartData) (a b : ℕ) → 0 < part.n →
    part_value spread seed part a b ≡ Some (pair_number spread seed part a b)
part_value-some spread seed part a b some =
    let other : (part.n == 0) ≡ false = ne_eqb part.n 0 (λ none. omega arith) in
    rw other refl

-- all elements pass two tests
all_both : {A : Type 0} (first second : A → Bool) (xs : List A) → list_all first xs ≡ true → list_all second xs ≡ true →
    list_all (λ x. first x && second x) xs ≡ true
all_both first second [] one two = refl
all_both first second (x ∷ xs) one two =
    let head = and_parts (first x) (list_all first xs) one in
    let tail = and_parts (second x) (list_all second xs) two in
    and_from (first x && second x) (list_all (λ y. first y && second y) xs) (and_from (first x) (second x) head.0 tail.0)
    (all_both first second xs head.1 tail.1)

-- the numbers of the records are pairwise different
pub pair_numbers_differ : (rules : Rules) (seed : ℕ) (records : List Record) (state : SearchState) → IsFinished rules seed records state →
    is_distinct (map (λ r. pair_number rules.shape.map seed (finished_part rules seed records state) r.a r.b) records) ≡ true
pair_numbers_differ rules seed records state finished =
    let facts : IsKnown rules seed records state = known rules seed records state finished in
    let plan : SearchPlan = partition_plan rules seed records in
    let n : ℕ = length records in
    let part : PartData = finished_part rules seed records state in
    let found : Record → ℕ = found_position plan state (bucket_number rules records) in
    let inside : ℕ → Bool = λ p. contains state.taken p && nat_lt p plan.size in
    let all_inside : list_all inside (map found records) ≡ true =
    list_all-map inside found records
    ∙ all_both (λ r. contains state.taken (found r)) (λ r. nat_lt (found r) plan.size) records
    (found_are_taken plan state (bucket_number rules records) records facts.reached facts.buckets)
    (found_are_below plan state (bucket_number rules records) records facts.room) in
    let distinct : is_distinct (map (position_value n part.free) (map found records)) ≡ true =
    is_distinct-map_where inside (position_value n part.free)
    (λ p q p_inside q_inside same.
    let first = and_parts (contains state.taken p) (nat_lt p plan.size) p_inside in
    let second = and_parts (contains state.taken q) (nat_lt q plan.size) q_inside in
    position_value-differs (contains state.taken) n plan.size p q (takes_count rules seed records state finished)
    (ltb-true p plan.size first.1) (ltb-true q plan.size second.1) first.0 second.0 same)
    (map found records) all_inside (found_are_distinct plan state (bucket_number rules records) records facts.reached facts.buckets) in
    ap (λ f. is_distinct (map f records)) (λ i r. position_value n part.free (pair_position-finished rules seed records state finished r i))
    ∙ ap is_distinct (sym (map-map (position_value n part.free) found records))
    ∙ distinct

-- each pair of hashes has a number below the number of records
pub pair_number-below : (rules : Rules) (seed : ℕ) (records : List Record) (state : SearchState) → IsFinished rules seed records state → (a b : ℕ) →
    pair_number rules.shape.map seed (finished_part rules seed records state) a b < length records
pair_number-below rules seed records state finished a b =
    let facts : IsKnown rules seed records state = known rules seed records state finished in
    let size : ℕ = (partition_plan rules seed records).size in
    let part : PartData = finished_part rules seed records state in
    let whole : part_size part ≡ size = part_size-finished rules seed records state finished in
    let room : 1 ≤ part_size part = omega (arith, facts.room) in
    let within : pair_position rules.shape.map seed part a b < part_size part = omega arith in
    position_value-below (contains state.taken) (length records) size (pair_position rules.shape.map seed part a b) finished.some (omega arith)
