-- What looks that come to a view leave of what it found, and add to it.
use Rattle.std.proofs.Common.{◌≡◌, ℕ, ◌+◌, ◌%◌, ◌<◌, ◌≤◌, Bool, true, false, ◌&&◌, List, []}
use Rattle.std.proofs.Common.{◌∷◌, ◌++◌, length, take, drop, refl, sym, ap}
use Rattle.std.proofs.Common.{◌∙◌, subst, arith, ⊎_elim}
use Rattle.std.specs.Prelude.{not, slice_index, bit_xor, Option, Some, None, IfSome, Err, ◌↔◌}
use Rattle.std.specs.List.{list_all}
use Rattle.std.proofs.lemmas.Bool.{and_from, not_from_true, both_ways}
use Rattle.std.proofs.lemmas.Bool.{false_from_ne_true, cases_lt}
use Rattle.std.proofs.lemmas.List.{drop-append-le, take_more, length-map, get_or-map, map-append}
use Rattle.std.proofs.lemmas.List.Folds.{list_all-append}
use Rattle.std.proofs.lemmas.List.Sums.{AllPass-from_list_all}
use Rattle.pthash.specs.Search.{SearchPlan, is_distinct, prefix_of}
use Rattle.pthash.specs.SearchLaws.{positions_at, fits_at, TakesMore, pilot_fits-more}
use Rattle.pthash.specs.Order.{bucket_at}
use Rattle.pilot_search.specs.Table.{positions_under}
use Rattle.turn_search.specs.declared.board.View.{View}
use Rattle.turn_search.specs.declared.trying.Spec.{Spec}
use Rattle.turn_search.specs.declared.trying.Spec.TheVariants.{Found, AllRejected}
use Rattle.turn_search.specs.Looks.{found_taken, found_free, late_looks, RejectsBelow, IsCandidateBy, Shows, HasTurn}
use Rattle.turn_search.specs.Told.{HasTurnIfHeld}
use Rattle.turn_search.specs.Passes.{CandidateData, LooksAt, OnlyLooked, IsOfRank, IsSpread, IsPilotOf, new_looks}
use Rattle.turn_search.proofs.LookLemmas.{shown_is_pilot, rejected_has_none}
use Rattle.turn_search.proofs.TurnKept.{prefix_of-next, prefix_of-stuck}
use Rattle.turn_search.proofs.Moves.{same_rank}
use Rattle.turn_search.proofs.Seats.{has_turn_of}
use Rattle.turn_search.proofs.MoreLooks.{looked_once, new_looks-are, new_looks-on, taken_left, free_right, all_free_left, all_free_right, look_free}

-- positions under a hash, and one more
pub positions_more : (hash size : ℕ) (members : List ℕ) (i : ℕ) → i < length members →
    positions_under hash size (take (i + 1) members) ≡ positions_under hash size (take i members) ++ bit_xor (slice_index members i) hash % size ∷ []
positions_more hash size members i below =
    ap (positions_under hash size) (take_more members i 0 below) ∙ map-append (λ b. bit_xor b hash % size) (take i members) (slice_index members i ∷ [])

-- one more position was found free
pub free_more : (one two three : View) (ps : List ℕ) (p : ℕ) → OnlyLooked one two → LooksAt two three p true →
    list_all (found_free (new_looks one two)) ps ≡ true →
    list_all (found_free (new_looks one three)) (ps ++ p ∷ []) ≡ true
free_more one two three ps p looked look all =
    let once = looked_once two three p true look in
    let both = new_looks-on one two three looked once in
    ap (λ l. list_all (found_free l) (ps ++ p ∷ [])) both
    ∙ list_all-append (found_free (new_looks one two ++ new_looks two three)) ps (p ∷ [])
    ∙ and_from (list_all (found_free (new_looks one two ++ new_looks two three)) ps) (found_free (new_looks one two ++ new_looks two three) p && true)
    (all_free_left (new_looks one two) (new_looks two three) ps all)
    (and_from (found_free (new_looks one two ++ new_looks two three) p) true
    (free_right (new_looks one two) (new_looks two three) p (look_free two three p look)) refl)

-- one of the positions is taken
pub not_all_free : (taken : ℕ → Bool) (hash size : ℕ) (members : List ℕ) (i : ℕ) → i < length members →
    taken (bit_xor (slice_index members i) hash % size) ≡ true →
    list_all (λ p. not (taken p)) (positions_under hash size members) ≡ false
not_all_free taken hash size members i below is =
    let ps : List ℕ = positions_under hash size members in
    let here : slice_index ps i ≡ bit_xor (slice_index members i) hash % size = get_or-map (λ b. bit_xor b hash % size) members i 0 0 below in
    false_from_ne_true (list_all (λ p. not (taken p)) ps) (λ all.
    let free : not (taken (slice_index ps i)) ≡ true =
    AllPass-from_list_all (λ p. not (taken p)) ps all i 0 (omega (arith, length-map members (λ b. bit_xor b hash % size))) in
    both_ways (not (taken (slice_index ps i))) (not_from_true (taken (slice_index ps i)) (ap taken here ∙ is)) free)

-- a pilot that a view rejects it rejects after more looks
pub rejects_on : (before after : View) (rank k : ℕ) → OnlyLooked before after → RejectsBelow before rank k → RejectsBelow after rank k
rejects_on before after rank k looked rejects =
    let now : View = record before { looks = before.looks ++ looked.more } in
    let more : TakesMore (found_taken before.looks) (found_taken now.looks) = λ p free.
    false_from_ne_true (found_taken before.looks p) (λ found. both_ways (found_taken now.looks p) free (taken_left before.looks looked.more p found)) in
    subst (λ v. RejectsBelow v rank k) (sym looked.view)
    record {
      fails = λ j below. pilot_fits-more before.plan.seed before.plan.size (found_taken before.looks) (found_taken now.looks)
          (bucket_at before.plan.buckets rank).members j more
          (rejects.fails j below);
    }

-- one pilot more is rejected
pub rejects_next : (view : View) (rank k : ℕ) → RejectsBelow view rank k → fits_at view.plan (found_taken view.looks) rank k ≡ false →
    RejectsBelow view rank (k + 1)
rejects_next view rank k rejects last = record {
  fails = λ j below.
      ⊎_elim (λ (lower : j < k). rejects.fails j lower)
      (λ (high : k ≤ j). let same : k ≡ j = omega arith in subst (λ i. fits_at view.plan (found_taken view.looks) rank i ≡ false) same last)
      (cases_lt j k);
}

-- a candidate by the last looks is one by all new ones
pub candidate_on : (plan : SearchPlan) (one two three : View) (rank k : ℕ) → OnlyLooked one two → OnlyLooked two three →
    IsCandidateBy plan (new_looks two three) rank k → IsCandidateBy plan (new_looks one three) rank k
candidate_on plan one two three rank k first second it = record {
  below = it.below;
  distinct = it.distinct;
  free = ap (λ l. list_all (found_free l) (positions_at plan rank k)) (new_looks-on one two three first second)
      ∙ all_free_right (new_looks one two) (new_looks two three) (positions_at plan rank k) it.free;
}

-- so is what later tests found
pub found_on : (plan : SearchPlan) (one two three : View) (rank : ℕ) (found : Option ℕ) → OnlyLooked one two → OnlyLooked two three →
    IfSome found (λ k. IsCandidateBy plan (new_looks two three) rank k) → IfSome found (λ k. IsCandidateBy plan (new_looks one three) rank k)
found_on plan one two three rank None first second it = it
found_on plan one two three rank (Some k) first second it = candidate_on plan one two three rank k first second it

-- a pilot that a second test finds while the turn is held is shown
pub retest_shows : (before after : View) (rank k : ℕ) → OnlyLooked before after → HasTurnIfHeld before → before.holds ≡ true →
    before.claim ≡ Some rank → RejectsBelow after rank k → IsCandidateBy after.plan (new_looks before after) rank k → Shows after rank k
retest_shows before after rank k looked turn held claims rejects it =
    let was = has_turn_of before rank turn held claims in
    let late : late_looks after ≡ late_looks before ++ looked.more =
    ap (λ v. drop v.mark v.looks) looked.view ∙ drop-append-le before.mark before.looks looked.more was.sees.marked in
    record {
      claims = ap (λ v. v.claim) looked.view ∙ claims;
      holds = ap (λ v. v.holds) looked.view ∙ held;
      lower = rejects;
      candidate = record {
        below = it.below;
        distinct = it.distinct;
        free = ap (λ l. list_all (found_free l) (positions_at after.plan rank k)) late
            ∙ all_free_right (late_looks before) looked.more (positions_at after.plan rank k)
            (subst (λ l. list_all (found_free l) (positions_at after.plan rank k) ≡ true) (new_looks-are before after looked) it.free);
      };
    }

-- a candidate of which looks find each position free while the turn is held is shown
pub spread_shows : (plan : SearchPlan) (before after : View) (it : CandidateData) (positions : List ℕ) → after.plan ≡ plan → OnlyLooked before after →
    HasTurnIfHeld before → before.holds ≡ true → IsOfRank before it → IsSpread plan it positions →
    list_all (found_free (new_looks before after)) positions ≡ true → Shows after it.rank it.pilot
spread_shows plan before after it positions same looked turn held own spread free =
    retest_shows before after it.rank it.pilot looked turn held own.rank (rejects_on before after it.rank it.pilot looked own.lower)
    (subst (λ q. IsCandidateBy q (new_looks before after) it.rank it.pilot) (sym same)
    record {
      below = spread.below;
      distinct = subst (λ ps. is_distinct ps ≡ true) spread.positions_are spread.distinct;
      free = subst (λ ps. list_all (found_free (new_looks before after)) ps ≡ true) spread.positions_are free;
    })

-- a candidate is of its rank after more looks
pub looked_candidate : (before after : View) (it : CandidateData) → OnlyLooked before after → IsOfRank before it → IsOfRank after it
looked_candidate before after it looked own = record {
  rank = ap (λ v. v.claim) looked.view ∙ own.rank;
  lower = rejects_on before after it.rank it.pilot looked own.lower;
}

-- one answer, one candidate
pub same_candidate : (one two : CandidateData) → Found one ≡ Found two → one ≡ two
same_candidate one two is = cc

-- so it is the pilot of the search
pub shown_in_search : (view : View) (rank k : ℕ) → 1 ≤ view.plan.size → HasTurn view rank → Shows view rank k → IsPilotOf view.plan rank k
shown_in_search view rank k room turn shows = record {
  state = turn.state;
  reached = turn.reached;
  pilot = shown_is_pilot view turn.state rank k room turn.sees shows;
}

-- a second test rejects all exactly where the search is stuck
pub stuck_exactly : (view : View) (rank : ℕ) (spec : Spec) → 1 ≤ view.plan.size → HasTurn view rank →
    ((it : CandidateData) → spec ≡ Found it → IsPilotOf view.plan rank it.pilot) → (spec ≡ AllRejected → RejectsBelow view rank view.plan.limit) →
    (spec ≡ AllRejected) ↔ (prefix_of view.plan (rank + 1) ≡ Err rank)
stuck_exactly view rank spec room turn found all = (
  (λ is. prefix_of-stuck view.plan rank turn.state turn.reached (rejected_has_none view turn.state rank room turn.sees (all is))),
  λ stuck.
      elim spec as (λ s. spec ≡ s → spec ≡ AllRejected) [
        | Found it ↦ λ is.
            let pilot = found it is in
            let next = prefix_of-next view.plan rank it.pilot pilot.state pilot.reached pilot.pilot in
            absurd cc
        | AllRejected ↦ λ is. is
      ] refl,
)

-- what a second test comes to, where the turn is held
module _ (plan : SearchPlan) (before after : View) (rank : ℕ) (looked : OnlyLooked before after) (same_plan : after.plan ≡ plan) (room : 1 ≤ plan.size)
    (turn : HasTurnIfHeld before) (now : HasTurnIfHeld after) (held : before.holds ≡ true) (claims : before.claim ≡ Some rank) where
  -- the claim stays
  still_claims : after.claim ≡ Some rank
  still_claims = ap (λ v. v.claim) looked.view ∙ claims

  -- so do the turn and what is known of it
  still_has : HasTurn after rank
  still_has = has_turn_of after rank now (ap (λ v. v.holds) looked.view ∙ held) still_claims

  -- the size
  has_room : 1 ≤ after.plan.size
  has_room = subst (λ (q : SearchPlan). 1 ≤ q.size) (sym same_plan) room

  -- what is found is of the same rank
  pub found_same_rank : (it : CandidateData) → IsOfRank after it → it.rank ≡ rank
  found_same_rank it own = same_rank after.claim it.rank rank own.rank still_claims

  -- it is shown
  pub found_shows : (it : CandidateData) → IsOfRank after it → IsCandidateBy plan (new_looks before after) it.rank it.pilot →
      Shows after it.rank it.pilot
  found_shows it own candidate =
      retest_shows before after it.rank it.pilot looked turn held (claims ∙ ap Some (sym (found_same_rank it own))) own.lower
      (subst (λ q. IsCandidateBy q (new_looks before after) it.rank it.pilot) (sym same_plan) candidate)

  -- and is the pilot of the search
  pub found_is_pilot : (it : CandidateData) → IsOfRank after it → IsCandidateBy plan (new_looks before after) it.rank it.pilot →
      IsPilotOf plan it.rank it.pilot
  found_is_pilot it own candidate =
      subst (λ q. IsPilotOf q it.rank it.pilot) same_plan
      (shown_in_search after it.rank it.pilot has_room (subst (HasTurn after) (sym (found_same_rank it own)) still_has)
      (found_shows it own candidate))

  -- all are rejected exactly where the search is stuck
  pub rejects_where_stuck : (spec : Spec) → ((it : CandidateData) → spec ≡ Found it → IsOfRank after it) →
      ((it : CandidateData) → spec ≡ Found it → IsCandidateBy plan (new_looks before after) it.rank it.pilot) →
      ((r : ℕ) → before.claim ≡ Some r → spec ≡ AllRejected → RejectsBelow after r plan.limit) →
      (spec ≡ AllRejected) ↔ (prefix_of plan (rank + 1) ≡ Err rank)
  rejects_where_stuck spec own candidate all =
      subst (λ q. (spec ≡ AllRejected) ↔ (prefix_of q (rank + 1) ≡ Err rank)) same_plan
      (stuck_exactly after rank spec has_room still_has
      (λ it is.
      subst (λ r. IsPilotOf after.plan r it.pilot) (found_same_rank it (own it is))
      (subst (λ q. IsPilotOf q it.rank it.pilot) (sym same_plan) (found_is_pilot it (own it is) (candidate it is))))
      (λ is. subst (λ (q : SearchPlan). RejectsBelow after rank q.limit) (sym same_plan) (all rank claims is)))
