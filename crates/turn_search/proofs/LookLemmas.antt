-- What the looks of a view say of pilots.
use Rattle.std.proofs.Common.{◌≡◌, ℕ, ◌<◌, ◌≤◌, Bool, true, false, List, [], ◌∷◌, refl, sym, ap, subst, arith}
use Rattle.std.specs.Prelude.{not, nat_lt, None, Some, length, slice_index}
use Rattle.std.specs.List.{list_all}
use Rattle.std.specs.FinSet.{contains}
use Rattle.std.proofs.lemmas.Bool.{and_parts, and_from, not_from_false, not-true, ltb-true, both_ways, false_from_ne_true}
use Rattle.std.proofs.lemmas.List.{length-map}
use Rattle.std.proofs.lemmas.List.Sums.{AllPass-from_list_all}
use Rattle.pthash.specs.Order.{bucket_at}
use Rattle.pthash.specs.Search.{SearchPlan, SearchState, fits, is_distinct, position_of, IsLeast}
use Rattle.pthash.specs.SearchLaws.{positions_at, fits_at, are_in_table, positions_in_table}
use Rattle.pthash.specs.Least.{FailsBelow, least_below-found, least_below-none}
use Rattle.turn_search.specs.declared.board.View.{View}
use Rattle.turn_search.specs.Looks.{found_taken, found_free, late_looks, RejectsBelow, Shows, SeesState}
use Rattle.turn_search.specs.Rule.{pilot_at, keys_at}

-- positions of the table that are free where more is taken are free where less is
free_of_less : (size : ℕ) (taken larger : ℕ → Bool) → ((p : ℕ) → p < size → taken p ≡ true → larger p ≡ true) → (ps : List ℕ) →
    are_in_table size ps ≡ true → list_all (λ p. not (larger p)) ps ≡ true → list_all (λ p. not (taken p)) ps ≡ true
free_of_less size taken larger more [] within free = refl
free_of_less size taken larger more (p ∷ ps) within free =
    let sizes = and_parts (nat_lt p size) (are_in_table size ps) within in
    let parts = and_parts (not (larger p)) (list_all (λ q. not (larger q)) ps) free in
    let new : taken p ≡ false = false_from_ne_true (taken p) (λ held. both_ways (larger p) (not-true (larger p) parts.0)
    (more p (ltb-true p size sizes.0) held)) in
    and_from (not (taken p)) (list_all (λ q. not (taken q)) ps) (not_from_false (taken p) new) (free_of_less size taken larger more ps sizes.1 parts.1)

-- positions of the table that don't fit still don't where more of the table is taken
fits-more : (size : ℕ) (taken larger : ℕ → Bool) → ((p : ℕ) → p < size → taken p ≡ true → larger p ≡ true) → (ps : List ℕ) →
    are_in_table size ps ≡ true → fits taken ps ≡ false → fits larger ps ≡ false
fits-more size taken larger more ps within fails =
    false_from_ne_true (fits larger ps) (λ fit.
    let parts = and_parts (list_all (λ p. not (larger p)) ps) (is_distinct ps) fit in
    both_ways (fits taken ps) fails
    (and_from (list_all (λ p. not (taken p)) ps) (is_distinct ps) (free_of_less size taken larger more ps within parts.0) parts.1))

-- the positions of a bucket are in the table
pub in_table : (plan : SearchPlan) (rank k : ℕ) → 1 ≤ plan.size → are_in_table plan.size (positions_at plan rank k) ≡ true
in_table plan rank k room = positions_in_table plan (bucket_at plan.buckets rank).members k room

-- as many positions as keys
pub length-positions_at : (plan : SearchPlan) (rank k : ℕ) → length (positions_at plan rank k) ≡ keys_at plan rank
length-positions_at plan rank k = length-map (bucket_at plan.buckets rank).members (position_of plan.seed plan.size k)

-- so each of them is
pub position_below : (plan : SearchPlan) (rank k i : ℕ) → 1 ≤ plan.size → i < keys_at plan rank → slice_index (positions_at plan rank k) i < plan.size
position_below plan rank k i room below =
    ltb-true (slice_index (positions_at plan rank k) i) plan.size
    (AllPass-from_list_all (λ p. nat_lt p plan.size) (positions_at plan rank k) (in_table plan rank k room) i 0
    (omega (arith, length-positions_at plan rank k)))

-- a position of a list that is a pilot's is in the table
pub position_in_table : (plan : SearchPlan) (rank k : ℕ) (positions : List ℕ) (i : ℕ) → 1 ≤ plan.size → positions ≡ positions_at plan rank k →
    i < length positions → slice_index positions i < plan.size
position_in_table plan rank k positions i room are below =
    subst (λ ps. slice_index ps i < plan.size) (sym are)
    (position_below plan rank k i room (omega (arith, ap length are, length-positions_at plan rank k, below)))

-- a pilot that a view rejects while it holds the turn doesn't fit the state there
pub rejected_fails : (view : View) (state : SearchState) (rank n : ℕ) → 1 ≤ view.plan.size → SeesState view state → RejectsBelow view rank n →
    FailsBelow (fits_at view.plan (contains state.taken) rank) n
rejected_fails view state rank n room sees rejects = record {
  fails = λ j below. fits-more view.plan.size (found_taken view.looks) (contains state.taken) sees.taken (positions_at view.plan rank j)
      (in_table view.plan rank j room) (rejects.fails j below);
}

-- positions that were found free since the turn came are free in the state
found_are_free : (view : View) (state : SearchState) → SeesState view state → (ps : List ℕ) → are_in_table view.plan.size ps ≡ true →
    list_all (found_free (late_looks view)) ps ≡ true → list_all (λ p. not (contains state.taken p)) ps ≡ true
found_are_free view state sees [] within found = refl
found_are_free view state sees (p ∷ ps) within found =
    let sizes = and_parts (nat_lt p view.plan.size) (are_in_table view.plan.size ps) within in
    let parts = and_parts (found_free (late_looks view) p) (list_all (found_free (late_looks view)) ps) found in
    and_from (not (contains state.taken p)) (list_all (λ q. not (contains state.taken q)) ps)
    (not_from_false (contains state.taken p) (sees.free p (ltb-true p view.plan.size sizes.0) parts.0))
    (found_are_free view state sees ps sizes.1 parts.1)

-- the pilot that a view shows is the least that fits
pub shown_is_least : (view : View) (state : SearchState) (rank k : ℕ) → 1 ≤ view.plan.size → SeesState view state → Shows view rank k →
    IsLeast (fits_at view.plan (contains state.taken) rank) view.plan.limit k
shown_is_least view state rank k room sees shows = record {
  below = shows.candidate.below;
  passes = and_from (list_all (λ p. not (contains state.taken p)) (positions_at view.plan rank k)) (is_distinct (positions_at view.plan rank k))
      (found_are_free view state sees (positions_at view.plan rank k) (in_table view.plan rank k room) shows.candidate.free) shows.candidate.distinct;
  first = (rejected_fails view state rank k room sees shows.lower).fails;
}

-- so it is the pilot of the bucket
pub shown_is_pilot : (view : View) (state : SearchState) (rank k : ℕ) → 1 ≤ view.plan.size → SeesState view state → Shows view rank k →
    pilot_at view.plan state rank ≡ Some k
shown_is_pilot view state rank k room sees shows =
    least_below-found (fits_at view.plan (contains state.taken) rank) view.plan.limit k (shown_is_least view state rank k room sees shows)

-- where each pilot is rejected, the bucket has none
pub rejected_has_none : (view : View) (state : SearchState) (rank : ℕ) → 1 ≤ view.plan.size → SeesState view state →
    RejectsBelow view rank view.plan.limit →
    pilot_at view.plan state rank ≡ None
rejected_has_none view state rank room sees rejects =
    least_below-none (fits_at view.plan (contains state.taken) rank) view.plan.limit (rejected_fails view state rank view.plan.limit room sees rejects).fails
