-- A partition, from what the search for it placed.
use Rattle.std.proofs.Common.{◌≡◌, ℕ, ◌<◌, ◌≤◌, List, [], ◌∷◌, length, Ok, Err, sym, ap, ◌∙◌, subst, arith}
use Rattle.std.specs.FinSet.{contains}
use Rattle.pthash.specs.declared.Record.{Record}
use Rattle.pthash.specs.declared.TheConstants.{MAX_KEYS, MAX_PILOTS}
use Rattle.pthash.specs.ByBucket.{pilots_by_number}
use Rattle.pthash.specs.Order.{bucket_at}
use Rattle.pthash.specs.OrderLaws.{number_is_below}
use Rattle.pthash.specs.Search.{SearchPlan, SearchState, search_of}
use Rattle.pthash.specs.SizeLaws.{le-table_size_of}
use Rattle.bucket_map.specs.ShapeData.{shape_data, IsShape-shape_data}
use Rattle.bucket_map.specs.declared.sizes.Shape.{Shape}
use Rattle.pilot_search.specs.declared.placing.Stuck.{Stuck}
use Rattle.pilot_search.specs.Outcome.{IsStuckAt}
use Rattle.build_outcome.specs.Attempt.{Rules, AreRules, partition_plan, part_of}
use Rattle.build_outcome.specs.FreeList.{free_list_of}
use Rattle.build_outcome.specs.Index.{PartData}
use Rattle.build_outcome.specs.OnePart.{one_part, part_of-finished, part_of-stuck, part_of-HaveOwnNumbers}
use Rattle.build_outcome.specs.PartLaws.{IsFinished, bucket_count, part_of-none}
use Rattle.build_outcome.specs.ValidityLaws.{part_of-IsValidPart}
use Rattle.part_function.specs.Answers.{IsPartAnswer}
use Rattle.part_function.specs.Parts.{IsPart}
use Rattle.part_function.specs.PartsLaws.{IsPart-valid}

-- what was searched is the plan of a partition, and what is made of the state in which the search ended
pub record IsMadeOf (rules : Rules) (seed : ℕ) (records : List Record) (plan : SearchPlan) (state : SearchState)
    (pilots free : List ℕ) : Type 0 where
  pub plan_is : plan ≡ partition_plan rules seed records
  pub ends : search_of plan ≡ Ok state
  pub pilots_are : pilots ≡ pilots_by_number plan.buckets state.pilots (bucket_count rules records)
  pub free_is : free ≡ free_list_of (contains state.taken) (length records) plan.size

-- that is the partition
pub made_part : (shape : Shape) (limit seed : ℕ) (records : List Record) (plan : SearchPlan) (state : SearchState)
    (pilots free : List ℕ) → 0 < length records →
    IsMadeOf (one_part (shape_data shape) limit) seed records plan state pilots free →
    part_of (one_part (shape_data shape) limit) seed records ≡ Ok (record { n = length records; pilots = pilots; free = free })
made_part shape limit seed records plan state pilots free some made =
    let rules : Rules = one_part (shape_data shape) limit in
    let m : ℕ = bucket_count rules records in
    let finished : IsFinished rules seed records state =
    record { shape = IsShape-shape_data shape; some = some; ends = ap search_of (sym made.plan_is) ∙ made.ends } in
    let pilots_are : pilots ≡ pilots_by_number (partition_plan rules seed records).buckets state.pilots m =
    made.pilots_are ∙ ap (λ (p : SearchPlan). pilots_by_number p.buckets state.pilots m) made.plan_is in
    let free_is : free ≡ free_list_of (contains state.taken) (length records) (partition_plan rules seed records).size =
    made.free_is ∙ ap (λ (p : SearchPlan). free_list_of (contains state.taken) (length records) p.size) made.plan_is in
    part_of-finished rules seed records state finished
    ∙ (λ i. Ok (record { n = length records; pilots = sym pilots_are i; free = sym free_is i }))

-- and keeps what each partition does
pub made_IsPart : (shape : Shape) (limit seed : ℕ) (records : List Record) (part : PartData) → 1 ≤ limit → limit ≤ MAX_PILOTS →
    length records ≤ MAX_KEYS →
    part_of (one_part (shape_data shape) limit) seed records ≡ Ok part → IsPart part
made_IsPart shape limit seed records part some_pilot few_pilots few gives =
    let ranges : AreRules (one_part (shape_data shape) limit) =
    record { shape = IsShape-shape_data shape; some_part = omega arith; few_parts = omega arith; some_pilot = some_pilot; few_pilots = few_pilots } in
    IsPart-valid (shape_data shape) part (IsShape-shape_data shape)
    (part_of-IsValidPart (one_part (shape_data shape) limit) seed records part ranges few gives)

-- the buckets of a partition's plan have numbers below their count
pub numbers_below_count : (shape : Shape) (limit seed m : ℕ) (records : List Record) (plan : SearchPlan) →
    plan ≡ partition_plan (one_part (shape_data shape) limit) seed records → m ≡ bucket_count (one_part (shape_data shape) limit) records →
    (rank : ℕ) → rank < length plan.buckets → (bucket_at plan.buckets rank).number < m
numbers_below_count shape limit seed m records plan is count rank within =
    let rules : Rules = one_part (shape_data shape) limit in
    subst (λ (p : SearchPlan). (rank < length p.buckets) → (bucket_at p.buckets rank).number < m) (sym is)
    (λ inside. subst (λ k. (bucket_at (partition_plan rules seed records).buckets rank).number < k) (sym count)
    (number_is_below records shape.map (bucket_count rules records) rank inside))
    within

-- there are at most as many records as positions
pub records_fit : (shape : Shape) (limit seed size : ℕ) (records : List Record) (plan : SearchPlan) →
    plan ≡ partition_plan (one_part (shape_data shape) limit) seed records → size ≡ plan.size → length records ≤ size
records_fit shape limit seed size records plan is sized =
    let room : length records ≤ (partition_plan (one_part (shape_data shape) limit) seed records).size =
    le-table_size_of (length records) shape.alpha shape.alpha_low shape.alpha_high in
    subst (λ k. length records ≤ k) (sym (sized ∙ ap (λ (p : SearchPlan). p.size) is)) room

-- no record gives the partition without a key
empty_part : (rules : Rules) (seed : ℕ) (records : List Record) (part : PartData) → length records ≡ 0 →
    part ≡ record { n = 0; pilots = []; free = [] } → part_of rules seed records ≡ Ok part
empty_part rules seed [] part none is = part_of-none rules seed ∙ ap Ok (sym is)
empty_part rules seed (r ∷ records) part none is = absurd (omega arith)

-- a partition that is the records' is the answer
answer_part : (shape : Shape) (limit seed : ℕ) (records : List Record) (part : PartData) →
    part_of (one_part (shape_data shape) limit) seed records ≡ Ok part → IsPartAnswer (shape_data shape) limit seed records (Ok part)
answer_part shape limit seed records part gives = record {
  part = gives;
  numbers = part_of-HaveOwnNumbers (one_part (shape_data shape) limit) seed records part (IsShape-shape_data shape) gives;
  stuck = tt;
}

-- that of no record
pub empty_answer : (shape : Shape) (limit seed : ℕ) (records : List Record) (part : PartData) → length records ≡ 0 →
    part ≡ record { n = 0; pilots = []; free = [] } → IsPartAnswer (shape_data shape) limit seed records (Ok part)
empty_answer shape limit seed records part none is =
    answer_part shape limit seed records part (empty_part (one_part (shape_data shape) limit) seed records part none is)

-- that of the plan that was searched
pub placed_answer : (shape : Shape) (limit seed : ℕ) (records : List Record) (plan : SearchPlan) (part : PartData) →
    plan ≡ partition_plan (one_part (shape_data shape) limit) seed records →
    part_of (one_part (shape_data shape) plan.limit) plan.seed records ≡ Ok part →
    IsPartAnswer (shape_data shape) limit seed records (Ok part)
placed_answer shape limit seed records plan part is gives =
    answer_part shape limit seed records part
    (subst (λ (p : SearchPlan). part_of (one_part (shape_data shape) p.limit) p.seed records ≡ Ok part) is gives)

-- where the search is stuck, there is no partition
pub stuck_answer : (shape : Shape) (limit seed : ℕ) (records : List Record) (plan : SearchPlan) (stuck : Stuck) → 0 < length records →
    plan ≡ partition_plan (one_part (shape_data shape) limit) seed records → IsStuckAt plan stuck →
    IsPartAnswer (shape_data shape) limit seed records (Err stuck)
stuck_answer shape limit seed records plan stuck some is at =
    let rules : Rules = one_part (shape_data shape) limit in
    let there : IsStuckAt (partition_plan rules seed records) stuck = subst (λ (p : SearchPlan). IsStuckAt p stuck) is at in
    record {
      part = tt;
      numbers = tt;
      stuck = record { search = there; no_part = part_of-stuck rules seed stuck.rank records some there.found ∙ ap Err (sym there.bucket) };
    }
