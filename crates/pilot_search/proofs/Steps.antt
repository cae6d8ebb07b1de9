-- How a search goes from one bucket to the next.
use Rattle.std.proofs.Common.{◌≡◌, ◌≢◌, Result, Bool, refl, ℕ, suc, ◌+◌, ◌-◌, ◌<◌, ◌≤◌, List, [], ◌∷◌}
use Rattle.std.proofs.Common.{◌++◌, length, take, Some, None, Ok, Err, Result, sym, ap, ◌∙◌, add-one, arith, ⊎_elim}
use Rattle.std.specs.Prelude.{slice_set, slice_index, replicate}
use Rattle.std.proofs.lemmas.Bool.{cases_lt}
use Rattle.std.proofs.lemmas.List.{length-take, get_or-take, get_or-append_right, take_more_set, take_all}
use Rattle.std.proofs.lemmas.List.{length-set, length-replicate, get_or-set_other, get_or-replicate, get_or_past}
use Rattle.std.specs.FinSet.{empty, contains, union, from_list}
use Rattle.pthash.specs.Order.{bucket_at}
use Rattle.pthash.specs.PrefixLaws.{IsEarlier, HasStep, length-pilots, prefix_of-step, prefix_of-earlier}
use Rattle.pthash.specs.Search.{SearchPlan, SearchState, positions_of, pilot_of, with_pilot, after_bucket, prefix_of, search_of}
use Rattle.pthash.specs.SearchLaws.{stuck_stays}
use Rattle.pilot_search.specs.Table.{Table}
use Rattle.pilot_search.specs.Outcome.{IsSearchedTo, AreFirstPilots}

-- before any bucket
pub started : (plan : SearchPlan) (pilots : List ℕ) (table : Table) → pilots ≡ replicate (length plan.buckets) 0 → table.taken ≡ empty →
    table.size ≡ plan.size → IsSearchedTo plan 0 pilots table
unfolding prefix_of
started plan pilots table zeros none size = record {
  state = ap (λ t. Ok (record { pilots = []; taken = t })) (sym none);
  one_number_a_rank = ap length zeros ∙ length-replicate (length plan.buckets) 0;
  no_pilot_yet = λ rank later.
      ap (λ ps. slice_index ps rank) zeros
      ∙ ⊎_elim
      (λ (lower : rank < length plan.buckets). get_or-replicate (length plan.buckets) rank 0 0 lower)
      (λ (higher : length plan.buckets ≤ rank). get_or_past (replicate (length plan.buckets) 0) rank 0
      (omega (arith, length-replicate {A = ℕ} (length plan.buckets) 0)))
      (cases_lt rank (length plan.buckets));
  size = size;
}

-- what a bucket of a plan is searched with
pub record IsTask (plan : SearchPlan) (rank seed size limit : ℕ) (members : List ℕ) : Type 0 where
  pub same_seed : seed ≡ plan.seed
  pub same_size : size ≡ plan.size
  pub same_limit : limit ≡ plan.limit
  pub same_members : members ≡ (bucket_at plan.buckets rank).members

-- the pilot of such a bucket
pub task_pilot : (plan : SearchPlan) (rank seed size limit : ℕ) (members : List ℕ) (taken : ℕ → Bool) → IsTask plan rank seed size limit members
    → pilot_of plan.seed plan.size plan.limit taken (bucket_at plan.buckets rank).members ≡ pilot_of seed size limit taken members
task_pilot plan rank seed size limit members taken task = rw (task.same_seed, task.same_size, task.same_limit, task.same_members) refl

-- its positions
pub task_positions : (plan : SearchPlan) (rank seed size limit : ℕ) (members : List ℕ) (k : ℕ) → IsTask plan rank seed size limit members
    → positions_of seed size members k ≡ positions_of plan.seed plan.size (bucket_at plan.buckets rank).members k
task_positions plan rank seed size limit members k task = rw (task.same_seed, task.same_size, task.same_members) refl

-- after one more bucket, which has this pilot
pub placed_more : (plan : SearchPlan) (rank k : ℕ) (pilots : List ℕ) (table after : Table) → rank < length plan.buckets →
    IsSearchedTo plan rank pilots table
    → pilot_of plan.seed plan.size plan.limit (contains table.taken) (bucket_at plan.buckets rank).members ≡ Some k
    → after.size ≡ table.size
    → after.taken ≡ union table.taken (from_list (positions_of plan.seed plan.size (bucket_at plan.buckets rank).members k))
    → IsSearchedTo plan (rank + 1) (slice_set pilots rank k) after
unfolding prefix_of
placed_more plan rank k pilots table after known so_far found size gained =
    let in_range : rank < length pilots = omega (arith, so_far.one_number_a_rank) in
    let places : List ℕ = positions_of plan.seed plan.size (bucket_at plan.buckets rank).members k in
    record {
      state =
          rw add-one
          (ap (after_bucket plan rank) so_far.state
          ∙ ap (with_pilot plan rank (record { pilots = take rank pilots; taken = table.taken })) found
          ∙ ap (λ ps. Ok (record { pilots = ps; taken = union table.taken (from_list places) }))
          (sym (ap (λ n. take n (slice_set pilots rank k)) (sym (add-one rank)) ∙ take_more_set pilots rank k in_range))
          ∙ ap (λ t. Ok (record { pilots = take (suc rank) (slice_set pilots rank k); taken = t })) (sym gained));
      one_number_a_rank = length-set pilots rank k ∙ so_far.one_number_a_rank;
      no_pilot_yet = λ later beyond.
          let other : later ≢ rank = omega arith in
          get_or-set_other pilots rank later k 0 other ∙ so_far.no_pilot_yet later (omega arith);
      size = size ∙ so_far.size;
    }

-- a bucket without a pilot stops the search at its rank
pub stuck_here : (plan : SearchPlan) (rank : ℕ) (pilots : List ℕ) (table : Table) → rank < length plan.buckets → IsSearchedTo plan rank pilots table
    → pilot_of plan.seed plan.size plan.limit (contains table.taken) (bucket_at plan.buckets rank).members ≡ None → search_of plan ≡ Err rank
unfolding prefix_of
stuck_here plan rank pilots table known so_far none =
    let here : prefix_of plan (suc rank) ≡ Err rank =
    ap (after_bucket plan rank) so_far.state ∙ ap (with_pilot plan rank (record { pilots = take rank pilots; taken = table.taken })) none in
    stuck_stays plan (suc rank) rank (length plan.buckets) here (omega arith)

-- no more buckets are placed than there are
pub done_within : (plan : SearchPlan) (t : ℕ) (pilots : List ℕ) (table : Table) → IsSearchedTo plan t pilots table → t ≤ length plan.buckets
done_within plan t pilots table so_far =
    let count : length (take t pilots) ≡ t = length-pilots plan t (record { pilots = take t pilots; taken = table.taken }) so_far.state in
    omega (arith, count, length-take t pilots, so_far.one_number_a_rank)

-- the pilot of the next bucket, where a longer prefix of the search is known
pub known_pilot : (plan : SearchPlan) (rank : ℕ) (pilots known : List ℕ) (table : Table) → IsSearchedTo plan rank pilots table →
    AreFirstPilots plan known → rank < length known
    → pilot_of plan.seed plan.size plan.limit (contains table.taken) (bucket_at plan.buckets rank).members ≡ Some (slice_index known rank)
known_pilot plan rank pilots known table so_far theirs in_range =
    let here : SearchState = record { pilots = take rank pilots; taken = table.taken } in
    let earlier : IsEarlier plan (suc rank) theirs.state = prefix_of-earlier plan (suc rank) (length known) theirs.state theirs.reached (omega arith) in
    let step : HasStep plan rank earlier.state = prefix_of-step plan rank earlier.state earlier.ends in
    let ends : prefix_of plan rank ≡ Ok step.state = step.ends in
    let same : step.state ≡ here = ok_same step.state here (prefix_of plan rank) ends so_far.state in
    let count : length step.state.pilots ≡ rank = length-pilots plan rank step.state ends in
    let gives : step.state.pilots ++ step.pilot ∷ [] ≡ take (suc rank) known =
    ap (λ (s : SearchState). s.pilots) step.gives ∙ earlier.pilots ∙ ap (take (suc rank)) theirs.same_pilots in
    let first : slice_index (step.state.pilots ++ step.pilot ∷ []) rank ≡ step.pilot = pilot_at_end step.state.pilots step.pilot rank count in
    let last : slice_index (take (suc rank) known) rank ≡ slice_index known rank = get_or-take (suc rank) known rank 0 (omega arith) in
    let is : step.pilot ≡ slice_index known rank = sym first ∙ ap (λ ps. slice_index ps rank) gives ∙ last in
    ap (λ (s : SearchState). pilot_of plan.seed plan.size plan.limit (contains s.taken) (bucket_at plan.buckets rank).members) (sym same)
    ∙ step.found ∙ ap Some is
  where
    ok_same : (s t : SearchState) (r : Result SearchState ℕ) → r ≡ Ok s → r ≡ Ok t → s ≡ t
    ok_same s t r first second = cc

    pilot_at_end : (ps : List ℕ) (k t : ℕ) → length ps ≡ t → slice_index (ps ++ k ∷ []) t ≡ k
    pilot_at_end ps k t known =
        let none : t - t ≡ 0 = omega arith in
        get_or-append_right ps (k ∷ []) t t 0 known (omega arith) ∙ rw none refl

-- after all buckets
pub finished : (plan : SearchPlan) (pilots : List ℕ) (table : Table) → IsSearchedTo plan (length plan.buckets) pilots table →
    search_of plan ≡ Ok (record { pilots = pilots; taken = table.taken })
finished plan pilots table so_far =
    so_far.state
    ∙ ap (λ ps. Ok (record { pilots = ps; taken = table.taken })) (take_all (length plan.buckets) pilots (omega (arith, so_far.one_number_a_rank)))
