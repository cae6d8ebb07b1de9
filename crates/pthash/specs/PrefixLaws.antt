-- What a search keeps from one rank to the next.
use Rattle.std.specs.Prelude.{◌≡◌, ℕ, zero, suc, ◌+◌, ◌<◌, ◌≤◌, true, false, not}
use Rattle.std.specs.Prelude.{List, [], ◌∷◌, ◌++◌, length, take, slice_index, Option, Some, None, Result, Ok, Err}
use Rattle.std.specs.Cmp.{nat_cmp_total}
use Rattle.std.specs.FinSet.{contains, union, from_list, len, len-empty, len-insert, contains-from_list_nat, same_set, nat_cmp-IsAntisymmetric}
use Rattle.std.specs.Ordering.{nat_cmp}
use Rattle.std.proofs.Common.{refl, sym, ap, ◌∙◌, subst, arith, ⊎_elim, add-one}
use Rattle.std.proofs.lemmas.Bool.{and_parts, not-true, or_left, cases_lt, false_from_ne_true, both_ways}
use Rattle.std.proofs.lemmas.List.{length-append, length-map, take_all, take-append-le, get_or_past}
use Rattle.std.proofs.lemmas.List.Sums.{sum_by_more}
use Rattle.pthash.specs.Order.{Bucket, bucket_at, member_count}
use Rattle.pthash.specs.Search.{SearchPlan, SearchState, position_of, is_among, is_distinct, with_pilot, after_bucket, prefix_of, least_below}
use Rattle.pthash.specs.SearchLaws.{TakesMore, fits_at, positions_at, first_positions, with_bucket, contains-positions, IsReached, prefix_of-ok}

-- a search got one rank further: where it stood before, and the pilot that it found
pub record HasStep (plan : SearchPlan) (t : ℕ) (later : SearchState) : Type 0 where
  pub state : SearchState
  pub pilot : ℕ
  pub ends : prefix_of plan t ≡ Ok state
  pub found : least_below (fits_at plan (contains state.taken) t) plan.limit ≡ Some pilot
  pub gives : with_bucket plan t state pilot ≡ later

-- the step where the state before and the answer for its bucket are known
step_by_pilot : (plan : SearchPlan) (t : ℕ) (state later : SearchState) (pilot : Option ℕ) → prefix_of plan t ≡ Ok state →
    least_below (fits_at plan (contains state.taken) t) plan.limit ≡ pilot → with_pilot plan t state pilot ≡ Ok later → HasStep plan t later
step_by_pilot plan t state later None ends found gives = absurd cc
step_by_pilot plan t state later (Some k) ends found gives =
    record { state = state; pilot = k; ends = ends; found = found; gives = cc }

-- the same, where the search may be stuck before
step_by_state : (plan : SearchPlan) (t : ℕ) (later : SearchState) (before : Result SearchState ℕ) → prefix_of plan t ≡ before →
    after_bucket plan t before ≡ Ok later → HasStep plan t later
step_by_state plan t later (Err rank) ends gives = absurd cc
step_by_state plan t later (Ok state) ends gives =
    step_by_pilot plan t state later (least_below (fits_at plan (contains state.taken) t) plan.limit) ends refl gives

-- a search that got to the next rank took a step
pub prefix_of-step : (plan : SearchPlan) (t : ℕ) (later : SearchState) → prefix_of plan (suc t) ≡ Ok later → HasStep plan t later
unfolding prefix_of
prefix_of-step plan t later gives = step_by_state plan t later (prefix_of plan t) refl gives

-- after t ranks there are t pilots
pub length-pilots : (plan : SearchPlan) (t : ℕ) (state : SearchState) → prefix_of plan t ≡ Ok state → length state.pilots ≡ t
unfolding prefix_of
length-pilots plan zero state ends =
    let none : [] ≡ state.pilots = cc in
    ap length (sym none)
length-pilots plan (suc t) later ends =
    let step : HasStep plan t later = prefix_of-step plan t later ends in
    let pilots : step.state.pilots ++ step.pilot ∷ [] ≡ later.pilots = ap (λ s. s.pilots) step.gives in
    ap length (sym pilots) ∙ length-append step.state.pilots (step.pilot ∷ []) ∙ omega (arith, length-pilots plan t step.state step.ends)

-- a search that stands at a rank in `later` stood at an earlier one, with a front of its pilots and no position more
pub record IsEarlier (plan : SearchPlan) (t : ℕ) (later : SearchState) : Type 0 where
  pub state : SearchState
  pub ends : prefix_of plan t ≡ Ok state
  pub pilots : state.pilots ≡ take t later.pilots
  pub taken : TakesMore (contains state.taken) (contains later.taken)

-- a set that gained positions holds what it held
more_after : (plan : SearchPlan) (t k : ℕ) (state : SearchState) → TakesMore (contains state.taken) (contains (with_bucket plan t state k).taken)
more_after plan t k state p free =
    false_from_ne_true (contains state.taken p) (λ held.
    both_ways (contains (union state.taken (from_list (positions_at plan t k))) p) free
    (contains-positions state.taken (positions_at plan t k) p ∙ or_left (contains state.taken p) (is_among (positions_at plan t k) p) held))

-- a search that got to a rank got to each earlier one
pub prefix_of-earlier : (plan : SearchPlan) (t u : ℕ) (later : SearchState) → prefix_of plan u ≡ Ok later → t ≤ u → IsEarlier plan t later
prefix_of-earlier plan t zero later ends before =
    let here : zero ≡ t = omega arith in
    let count : length later.pilots ≡ 0 = length-pilots plan zero later ends in
    subst (λ n. IsEarlier plan n later) here
    (record { state = later; ends = ends; pilots = sym (take_all 0 later.pilots (omega arith)); taken = λ p free. free })
prefix_of-earlier plan t (suc u) later ends before =
    ⊎_elim
    (λ (lower : t < suc u).
    let step : HasStep plan u later = prefix_of-step plan u later ends in
    let earlier : IsEarlier plan t step.state = prefix_of-earlier plan t u step.state step.ends (omega arith) in
    let count : length step.state.pilots ≡ u = length-pilots plan u step.state step.ends in
    let pilots : step.state.pilots ++ step.pilot ∷ [] ≡ later.pilots = ap (λ s. s.pilots) step.gives in
    let more : TakesMore (contains step.state.taken) (contains later.taken) =
    subst (λ (s : SearchState). TakesMore (contains step.state.taken) (contains s.taken)) step.gives (more_after plan u step.pilot step.state) in
    record {
      state = earlier.state;
      ends = earlier.ends;
      pilots = earlier.pilots ∙ sym (take-append-le t step.state.pilots (step.pilot ∷ []) (omega arith)) ∙ ap (take t) pilots;
      taken = λ p free. earlier.taken p (more p free);
    })
    (λ (last : suc u ≤ t).
    let here : suc u ≡ t = omega arith in
    let count : length later.pilots ≡ suc u = length-pilots plan (suc u) later ends in
    subst (λ n. IsEarlier plan n later) here
    (record { state = later; ends = ends; pilots = sym (take_all (suc u) later.pilots (omega arith)); taken = λ p free. free }))
    (cases_lt t (suc u))

-- the earlier state is the one that is known to stand there
same_state : (plan : SearchPlan) (t : ℕ) (state later : SearchState) (earlier : IsEarlier plan t later) → prefix_of plan t ≡ Ok state →
    earlier.state ≡ state
same_state plan t state later earlier ends =
    let here : prefix_of plan t ≡ Ok earlier.state = earlier.ends in
    cc

-- the pilots of a prefix of the search are a front of those of each longer prefix
pub prefix_of-pilots : (plan : SearchPlan) (t u : ℕ) (state later : SearchState) → prefix_of plan t ≡ Ok state → prefix_of plan u ≡ Ok later →
    t ≤ u → state.pilots ≡ take t later.pilots
prefix_of-pilots plan t u state later ends further before =
    let earlier : IsEarlier plan t later = prefix_of-earlier plan t u later further before in
    ap (λ s. s.pilots) (sym (same_state plan t state later earlier ends)) ∙ earlier.pilots

-- what a prefix of the search has taken, each longer prefix has too
pub prefix_of-taken : (plan : SearchPlan) (t u : ℕ) (state later : SearchState) → prefix_of plan t ≡ Ok state → prefix_of plan u ≡ Ok later →
    t ≤ u → TakesMore (contains state.taken) (contains later.taken)
prefix_of-taken plan t u state later ends further before =
    let earlier : IsEarlier plan t later = prefix_of-earlier plan t u later further before in
    subst (λ (s : SearchState). TakesMore (contains s.taken) (contains later.taken)) (same_state plan t state later earlier ends) earlier.taken

-- a set of distinct numbers has as many as the list
pub len-from_list : (ps : List ℕ) → is_distinct ps ≡ true → len (from_list {R = nat_cmp} ps) ≡ length ps
len-from_list [] distinct = len-empty nat_cmp
len-from_list (p ∷ ps) distinct =
    let parts = and_parts (not (is_among ps p)) (is_distinct ps) distinct in
    let new : contains (from_list {R = nat_cmp} ps) p ≡ false = contains-from_list_nat ps p ∙ not-true (is_among ps p) parts.0 in
    let count : len (from_list {R = nat_cmp} ps) ≡ length ps = len-from_list ps parts.1 in
    len-insert nat_cmp_total (from_list ps) p ∙ rw new (omega arith)

-- the first buckets have as many positions as members
pub length-first_positions : (plan : SearchPlan) (pilots : List ℕ) (t : ℕ) → length (first_positions plan pilots t) ≡ member_count (take t plan.buckets)
unfolding first_positions
length-first_positions plan pilots zero = refl
length-first_positions plan pilots (suc t) =
    let none : Bucket = record { number = 0; members = [] } in
    let before : List ℕ = first_positions plan pilots t in
    let count : length before ≡ member_count (take t plan.buckets) = length-first_positions plan pilots t in
    let new : length (positions_at plan t (slice_index pilots t)) ≡ length (bucket_at plan.buckets t).members =
    length-map (bucket_at plan.buckets t).members (position_of plan.seed plan.size (slice_index pilots t)) in
    length-append before (positions_at plan t (slice_index pilots t))
    ∙ ⊎_elim
    (λ (within : t < length plan.buckets).
    let more : member_count (take (t + 1) plan.buckets) ≡ member_count (take t plan.buckets) + length (bucket_at plan.buckets t).members =
    sum_by_more (λ (bucket : Bucket). length bucket.members) plan.buckets t none within in
    let next : member_count (take (t + 1) plan.buckets) ≡ member_count (take (suc t) plan.buckets) =
    ap (λ n. member_count (take n plan.buckets)) (add-one t) in
    omega arith)
    (λ (past : length plan.buckets ≤ t).
    let empty_one : bucket_at plan.buckets t ≡ none = get_or_past plan.buckets t none past in
    let zero_more : length (bucket_at plan.buckets t).members ≡ 0 = ap (λ (b : Bucket). length b.members) empty_one in
    let all : take t plan.buckets ≡ plan.buckets = take_all t plan.buckets past in
    let all_too : take (suc t) plan.buckets ≡ plan.buckets = take_all (suc t) plan.buckets (omega arith) in
    let same : member_count (take t plan.buckets) ≡ member_count (take (suc t) plan.buckets) = ap member_count (all ∙ sym all_too) in
    omega arith)
    (cases_lt t (length plan.buckets))

-- what a search has taken are the positions of its buckets
pub taken_is : (plan : SearchPlan) (t : ℕ) (state : SearchState) → IsReached plan t state →
    state.taken ≡ from_list (first_positions plan state.pilots t)
taken_is plan t state reached =
    same_set nat_cmp_total nat_cmp-IsAntisymmetric state.taken (from_list (first_positions plan state.pilots t))
    (λ p. reached.taken_are_theirs p ∙ sym (contains-from_list_nat (first_positions plan state.pilots t) p))

-- the taken set has as many positions as the first buckets have members
pub len-taken : (plan : SearchPlan) (t : ℕ) (state : SearchState) → 1 ≤ plan.size → prefix_of plan t ≡ Ok state →
    len state.taken ≡ member_count (take t plan.buckets)
len-taken plan t state room ends =
    let reached : IsReached plan t state = prefix_of-ok plan t state room ends in
    ap len (taken_is plan t state reached) ∙ len-from_list (first_positions plan state.pilots t) reached.distinct
    ∙ length-first_positions plan state.pilots t
