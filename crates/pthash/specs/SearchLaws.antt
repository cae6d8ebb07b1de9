-- What the search gives, in words of its own: distinct positions in the table, and for each bucket the least pilot that fits what
-- the earlier buckets left.
use Rattle.std.specs.Prelude.{◌≡◌, ℕ, zero, suc, ◌-◌, ◌<◌, ◌≤◌, ◌%◌, ◌==◌}
use Rattle.std.specs.Prelude.{Bool, true, false, not, ◌||◌, nat_lt, bit_xor, ◌⊎◌}
use Rattle.std.specs.Prelude.{List, [], ◌∷◌, ◌++◌, length, slice_index, Option, Some, None, Result, Ok, Err}
use Rattle.std.specs.List.{list_all}
use Rattle.std.specs.Cmp.{nat_cmp_total}
use Rattle.std.specs.FinSet.{contains, empty, union, from_list, contains-empty, contains-union, contains-from_list_nat}
use Rattle.std.specs.Ordering.{nat_cmp}
use Rattle.std.proofs.Common.{refl, sym, ap, ◌∙◌, subst, arith, ⊎_elim, inl, inr}
use Rattle.std.proofs.lemmas.Bool.{and_parts, and_from, and_right, not_from_false, not-true, or_from, or_parts, cases_lt, eqb-false, ne_eqb, lt-ltb}
use Rattle.std.proofs.lemmas.List.{get_or_append_left, get_or-append_right, length-append}
use Rattle.std.proofs.lemmas.List.Folds.{list_all-append, list_any-append}
use Rattle.pthash.specs.Hash.{pilot_hash}
use Rattle.pthash.specs.Order.{bucket_at}
use Rattle.pthash.specs.Search.{SearchPlan, SearchState, Positions, position_of, positions_of, is_among, is_distinct, fits, pilot_fits, pilot_of}
use Rattle.pthash.specs.Search.{with_pilot, after_bucket, prefix_of, search_of, least_below, IsLeast}
use Rattle.pthash.specs.Least.{least_below-none, least_below-is_least, least_below-fails}
use Rattle.pthash.specs.Apart.{is_distinct-map_of_repeat}

-- a position that the second test finds free, the first finds free too
abbrev pub TakesMore : (ℕ → Bool) → (ℕ → Bool) → Type 0
TakesMore taken larger = (p : ℕ) → larger p ≡ false → taken p ≡ false

-- positions that are free where more is taken are free where less is
free_of_less : (taken larger : ℕ → Bool) → TakesMore taken larger → (ps : List ℕ) → list_all (λ p. not (larger p)) ps ≡ true →
    list_all (λ p. not (taken p)) ps ≡ true
free_of_less taken larger more [] free = refl
free_of_less taken larger more (p ∷ ps) free =
    let parts = and_parts (not (larger p)) (list_all (λ q. not (larger q)) ps) free in
    and_from (not (taken p)) (list_all (λ q. not (taken q)) ps)
    (not_from_false (taken p) (more p (not-true (larger p) parts.0)))
    (free_of_less taken larger more ps parts.1)

-- positions that fit where more is taken fit where less is
pub fits-less : (taken larger : ℕ → Bool) → TakesMore taken larger → (ps : List ℕ) → fits larger ps ≡ true → fits taken ps ≡ true
fits-less taken larger more ps fit =
    let parts = and_parts (list_all (λ p. not (larger p)) ps) (is_distinct ps) fit in
    and_from (list_all (λ p. not (taken p)) ps) (is_distinct ps) (free_of_less taken larger more ps parts.0) parts.1

-- a pilot that doesn't fit still doesn't where more is taken
pub fits-more : (taken larger : ℕ → Bool) → TakesMore taken larger → (ps : List ℕ) → fits taken ps ≡ false → fits larger ps ≡ false
fits-more taken larger more ps fails =
    elim (fits larger ps) as (λ b. fits larger ps ≡ b → fits larger ps ≡ false) [
      | true ↦ λ fit. absurd (let yes : fits taken ps ≡ true = fits-less taken larger more ps fit in cc)
      | false ↦ λ e. e
    ] refl

-- a pilot of a bucket's members that doesn't fit still doesn't where more is taken
pub pilot_fits-more : (seed size : ℕ) (taken larger : ℕ → Bool) (members : List ℕ) (k : ℕ) → TakesMore taken larger →
    pilot_fits seed size taken members k ≡ false → pilot_fits seed size larger members k ≡ false
pilot_fits-more seed size taken larger members k more fails = fits-more taken larger more (positions_of seed size members k) fails

-- members of which two are equal are never sent to distinct positions
pub pilot_fits-repeated : (seed size : ℕ) (taken : ℕ → Bool) (members : List ℕ) (k : ℕ) → is_distinct members ≡ false →
    pilot_fits seed size taken members k ≡ false
pilot_fits-repeated seed size taken members k twice =
    let positions : List ℕ = positions_of seed size members k in
    and_right (list_all (λ p. not (taken p)) positions) (is_distinct positions) (is_distinct-map_of_repeat (position_of seed size k) members twice)

-- so a bucket of which two members are equal has no pilot
pub pilot_of-repeated : (seed size limit : ℕ) (taken : ℕ → Bool) (members : List ℕ) → is_distinct members ≡ false →
    pilot_of seed size limit taken members ≡ None
pilot_of-repeated seed size limit taken members twice =
    least_below-none (pilot_fits seed size taken members) limit (λ k below. pilot_fits-repeated seed size taken members k twice)

-- the positions of the bucket at a rank under a pilot
abbrev pub positions_at : SearchPlan → ℕ → ℕ → List ℕ
positions_at plan rank k = positions_of plan.seed plan.size (bucket_at plan.buckets rank).members k

-- the test of a pilot for the bucket at a rank
abbrev pub fits_at : SearchPlan → (ℕ → Bool) → ℕ → ℕ → Bool
fits_at plan is_taken rank = pilot_fits plan.seed plan.size is_taken (bucket_at plan.buckets rank).members

-- the positions of the first buckets under these pilots, by rank
unfoldable pub first_positions : SearchPlan → List ℕ → ℕ → List ℕ
first_positions plan pilots zero = []
first_positions plan pilots (suc rank) = first_positions plan pilots rank ++ positions_at plan rank (slice_index pilots rank)

-- the test of a pilot for the bucket at a rank, where the earlier buckets have these pilots
abbrev pub fits_after : SearchPlan → List ℕ → ℕ → ℕ → Bool
fits_after plan pilots rank = fits_at plan (is_among (first_positions plan pilots rank)) rank

-- all numbers are places of a table of this size
abbrev pub are_in_table : ℕ → List ℕ → Bool
are_in_table size ps = list_all (λ p. nat_lt p size) ps

-- the state after the first t buckets
pub record IsReached (plan : SearchPlan) (t : ℕ) (state : SearchState) : Type 0 where
  pub one_pilot_a_rank : length state.pilots ≡ t
  pub taken_are_theirs : (p : ℕ) → contains state.taken p ≡ is_among (first_positions plan state.pilots t) p
  pub distinct : is_distinct (first_positions plan state.pilots t) ≡ true
  pub in_the_table : are_in_table plan.size (first_positions plan state.pilots t) ≡ true
  pub least : (rank : ℕ) → rank < t → IsLeast (fits_after plan state.pilots rank) plan.limit (slice_index state.pilots rank)

-- the search is stuck at a rank below t: it reached that rank, and no pilot fits what the earlier buckets left
pub record IsStuck (plan : SearchPlan) (t rank : ℕ) : Type 0 where
  pub below : rank < t
  pub state : SearchState
  pub reached : IsReached plan rank state
  pub no_pilot : (k : ℕ) → k < plan.limit → fits_after plan state.pilots rank k ≡ false

-- a pilot more doesn't change the positions of the buckets before
same_first_positions : (plan : SearchPlan) (pilots : List ℕ) (k t : ℕ) → t ≤ length pilots →
    first_positions plan (pilots ++ k ∷ []) t ≡ first_positions plan pilots t
unfolding first_positions
same_first_positions plan pilots k zero known = refl
same_first_positions plan pilots k (suc t) known =
    let earlier : first_positions plan (pilots ++ k ∷ []) t ≡ first_positions plan pilots t = same_first_positions plan pilots k t (omega arith) in
    let pilot : slice_index (pilots ++ k ∷ []) t ≡ slice_index pilots t = get_or_append_left pilots (k ∷ []) 0 t (omega arith) in
    rw (earlier, pilot) refl

-- none of the positions is x, and none is taken
apart : (x : ℕ) (taken : ℕ → Bool) (ys : List ℕ) → list_all (λ p. not (x == p || taken p)) ys ≡ true →
    (is_among ys x ≡ false) × (list_all (λ p. not (taken p)) ys ≡ true)
apart x taken [] free = (refl, refl)
apart x taken (y ∷ ys) free =
    let parts = and_parts (not (x == y || taken y)) (list_all (λ p. not (x == p || taken p)) ys) free in
    let head = or_parts (x == y) (taken y) (not-true (x == y || taken y) parts.0) in
    let tail = apart x taken ys parts.1 in (
      or_from (y == x) (is_among ys x) (ne_eqb y x (λ e. eqb-false x y head.0 (sym e))) tail.0,
      and_from (not (taken y)) (list_all (λ p. not (taken p)) ys) (not_from_false (taken y) head.1) tail.1,
    )

-- distinct positions and others that fit behind them are distinct together
pub is_distinct-append : (xs ys : List ℕ) → is_distinct xs ≡ true → fits (is_among xs) ys ≡ true → is_distinct (xs ++ ys) ≡ true
is_distinct-append [] ys distinct fit = (and_parts (list_all (λ p. not (is_among [] p)) ys) (is_distinct ys) fit).1
is_distinct-append (x ∷ xs) ys distinct fit =
    let first = and_parts (not (is_among xs x)) (is_distinct xs) distinct in
    let new = and_parts (list_all (λ p. not (is_among (x ∷ xs) p)) ys) (is_distinct ys) fit in
    let away = apart x (is_among xs) ys new.0 in
    let alone : is_among (xs ++ ys) x ≡ false =
    list_any-append (λ y. y == x) xs ys ∙ or_from (is_among xs x) (is_among ys x) (not-true (is_among xs x) first.0) away.0 in
    and_from (not (is_among (xs ++ ys) x)) (is_distinct (xs ++ ys)) (not_from_false (is_among (xs ++ ys) x) alone)
    (is_distinct-append xs ys first.1 (and_from (list_all (λ p. not (is_among xs p)) ys) (is_distinct ys) away.1 new.1))

-- positions are places of the table
pub positions_in_table : (plan : SearchPlan) (members : List ℕ) (k : ℕ) → 1 ≤ plan.size →
    are_in_table plan.size (positions_of plan.seed plan.size members k) ≡ true
positions_in_table plan [] k room = refl
positions_in_table plan (b ∷ bs) k room =
    let p : ℕ = bit_xor b (pilot_hash k plan.seed) % plan.size in
    and_from (nat_lt p plan.size) (are_in_table plan.size (positions_of plan.seed plan.size bs k))
    (lt-ltb p plan.size (omega arith)) (positions_in_table plan bs k room)

-- the last of the pilots
pilot_at_end : (pilots : List ℕ) (k t : ℕ) → length pilots ≡ t → slice_index (pilots ++ k ∷ []) t ≡ k
pilot_at_end pilots k t known =
    let none : t - t ≡ 0 = omega arith in
    get_or-append_right pilots (k ∷ []) t t 0 known (omega arith) ∙ rw none refl

-- the state before any bucket
none_reached : (plan : SearchPlan) → IsReached plan 0 (record { pilots = []; taken = empty })
unfolding first_positions
none_reached plan = record {
  one_pilot_a_rank = refl;
  taken_are_theirs = λ p. contains-empty nat_cmp p;
  distinct = refl;
  in_the_table = refl;
  least = λ rank below. absurd (omega arith);
}

-- what a set holds that gained these positions
pub contains-positions : (taken : Positions) (ps : List ℕ) (p : ℕ) → contains (union taken (from_list ps)) p ≡ (contains taken p || is_among ps p)
contains-positions taken ps p =
    contains-union nat_cmp_total taken (from_list ps) p ∙ ap (λ b. contains taken p || b) (contains-from_list_nat ps p)

-- the facts of the last rank hold of all ranks where they held of the earlier ones
least_so_far : (plan : SearchPlan) (t k : ℕ) (pilots : List ℕ) → length pilots ≡ t →
    ((rank : ℕ) → rank < t → IsLeast (fits_after plan pilots rank) plan.limit (slice_index pilots rank)) →
    IsLeast (fits_after plan pilots t) plan.limit k → (rank : ℕ) → rank < suc t → (rank < t) ⊎ (t ≤ rank) →
    IsLeast (fits_after plan (pilots ++ k ∷ []) rank) plan.limit (slice_index (pilots ++ k ∷ []) rank)
least_so_far plan t k pilots known before least rank below side =
    elim side [
      | inl lower ↦
          let earlier : first_positions plan (pilots ++ k ∷ []) rank ≡ first_positions plan pilots rank =
          same_first_positions plan pilots k rank (omega (arith, known)) in
          let pilot : slice_index (pilots ++ k ∷ []) rank ≡ slice_index pilots rank = get_or_append_left pilots (k ∷ []) 0 rank (omega (arith, known)) in
          rw (earlier, pilot) (before rank lower)
      | inr higher ↦
          let here : t ≡ rank = omega arith in
          let earlier : first_positions plan (pilots ++ k ∷ []) t ≡ first_positions plan pilots t =
          same_first_positions plan pilots k t (omega (arith, known)) in
          let pilot : slice_index (pilots ++ k ∷ []) t ≡ k = pilot_at_end pilots k t known in
          let P : ℕ → Type 0 = λ r. IsLeast (fits_after plan (pilots ++ k ∷ []) r) plan.limit (slice_index (pilots ++ k ∷ []) r) in
          subst P here (rw (earlier, pilot) least)
    ]

-- a state with one bucket more
abbrev pub with_bucket : SearchPlan → ℕ → SearchState → ℕ → SearchState
with_bucket plan rank state k =
    record { pilots = state.pilots ++ k ∷ []; taken = union state.taken (from_list (positions_at plan rank k)) }

-- the next state, where a pilot is found
one_more_reached : (plan : SearchPlan) (t k : ℕ) (state : SearchState) → 1 ≤ plan.size → IsReached plan t state →
    IsLeast (fits_at plan (contains state.taken) t) plan.limit k → IsReached plan (suc t) (with_bucket plan t state k)
unfolding first_positions
one_more_reached plan t k state room reached least =
    let before : List ℕ = first_positions plan state.pilots t in
    let new : List ℕ = positions_at plan t k in
    let same : contains state.taken ≡ is_among before = λ i p. reached.taken_are_theirs p i in
    let theirs : IsLeast (fits_after plan state.pilots t) plan.limit k = subst (λ f. IsLeast (fits_at plan f t) plan.limit k) same least in
    let earlier : first_positions plan (state.pilots ++ k ∷ []) t ≡ before =
    same_first_positions plan state.pilots k t (omega (arith, reached.one_pilot_a_rank)) in
    let pilot : slice_index (state.pilots ++ k ∷ []) t ≡ k = pilot_at_end state.pilots k t reached.one_pilot_a_rank in
    record {
      one_pilot_a_rank = length-append state.pilots (k ∷ []) ∙ omega (arith, reached.one_pilot_a_rank);
      taken_are_theirs = λ p. rw (earlier, pilot)
          (contains-positions state.taken new p ∙ ap (λ b. b || is_among new p) (reached.taken_are_theirs p)
          ∙ sym (list_any-append (λ y. y == p) before new));
      distinct = rw (earlier, pilot) (is_distinct-append before new reached.distinct theirs.passes);
      in_the_table = rw (earlier, pilot)
          (list_all-append (λ p. nat_lt p plan.size) before new
          ∙ and_from (are_in_table plan.size before) (are_in_table plan.size new) reached.in_the_table
          (positions_in_table plan (bucket_at plan.buckets t).members k room));
      least = λ rank below. least_so_far plan t k state.pilots reached.one_pilot_a_rank reached.least theirs rank below (cases_lt rank t);
    }

-- what a search that isn't stuck has reached
abbrev pub IsReachedOrStuck : SearchPlan → ℕ → Result SearchState ℕ → Type 0
IsReachedOrStuck plan t (Ok state) = IsReached plan t state
IsReachedOrStuck plan t (Err rank) = IsStuck plan t rank

-- the state or the stuck rank after one bucket more
after_found : (plan : SearchPlan) (t : ℕ) (state : SearchState) (pilot : Option ℕ) → 1 ≤ plan.size → IsReached plan t state →
    least_below (fits_at plan (contains state.taken) t) plan.limit ≡ pilot → IsReachedOrStuck plan (suc t) (with_pilot plan t state pilot)
after_found plan t state None room reached found =
    let same : contains state.taken ≡ is_among (first_positions plan state.pilots t) = λ i p. reached.taken_are_theirs p i in
    record {
      below = omega arith;
      state = state;
      reached = reached;
      no_pilot = λ k below. subst (λ f. fits_at plan f t k ≡ false) same
          (least_below-fails (fits_at plan (contains state.taken) t) plan.limit found k below);
    }
after_found plan t state (Some k) room reached found =
    one_more_reached plan t k state room reached (least_below-is_least (fits_at plan (contains state.taken) t) plan.limit k found)

-- the same, where the search may be stuck before
after_any : (plan : SearchPlan) (t : ℕ) (before : Result SearchState ℕ) → 1 ≤ plan.size → IsReachedOrStuck plan t before →
    IsReachedOrStuck plan (suc t) (after_bucket plan t before)
after_any plan t (Err rank) room stuck =
    record { below = omega (arith, stuck.below); state = stuck.state; reached = stuck.reached; no_pilot = stuck.no_pilot }
after_any plan t (Ok state) room reached =
    after_found plan t state (least_below (fits_at plan (contains state.taken) t) plan.limit) room reached refl

-- a search reaches a state of this kind, or a bucket that no pilot fits
pub prefix_of-reached : (plan : SearchPlan) (t : ℕ) → 1 ≤ plan.size → IsReachedOrStuck plan t (prefix_of plan t)
unfolding prefix_of
prefix_of-reached plan zero room = none_reached plan
prefix_of-reached plan (suc t) room = after_any plan t (prefix_of plan t) room (prefix_of-reached plan t room)

-- what a search reached that isn't stuck
pub prefix_of-ok : (plan : SearchPlan) (t : ℕ) (state : SearchState) → 1 ≤ plan.size → prefix_of plan t ≡ Ok state → IsReached plan t state
prefix_of-ok plan t state room ends = subst (IsReachedOrStuck plan t) ends (prefix_of-reached plan t room)

-- a search that is stuck stays stuck at that rank
pub stuck_stays : (plan : SearchPlan) (t rank n : ℕ) → prefix_of plan t ≡ Err rank → t ≤ n → prefix_of plan n ≡ Err rank
unfolding prefix_of
stuck_stays plan t rank zero stuck later =
    let same : t ≡ 0 = omega arith in
    subst (λ k. prefix_of plan k ≡ Err rank) same stuck
stuck_stays plan t rank (suc n) stuck later =
    ⊎_elim
    (λ (earlier : t < suc n). let still : prefix_of plan n ≡ Err rank = stuck_stays plan t rank n stuck (omega arith) in rw still refl)
    (λ (last : suc n ≤ t). let same : t ≡ suc n = omega arith in subst (λ k. prefix_of plan k ≡ Err rank) same stuck)
    (cases_lt t (suc n))

-- a finished search has distinct positions in the table, and each pilot is the least that fits what the earlier buckets left
pub finished_search : (plan : SearchPlan) (state : SearchState) → 1 ≤ plan.size → search_of plan ≡ Ok state →
    IsReached plan (length plan.buckets) state
finished_search plan state room ends = prefix_of-ok plan (length plan.buckets) state room ends

-- a stuck search reached a bucket that has no pilot
pub stuck_search : (plan : SearchPlan) (rank : ℕ) → 1 ≤ plan.size → search_of plan ≡ Err rank → IsStuck plan (length plan.buckets) rank
stuck_search plan rank room stuck = subst (IsReachedOrStuck plan (length plan.buckets)) stuck (prefix_of-reached plan (length plan.buckets) room)
