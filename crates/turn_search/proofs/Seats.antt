-- What each kind of step asks of a seat of a table, and what it leaves a pass.
use Rattle.std.proofs.Common.{◌≡◌, ℕ, ◌+◌, ◌/◌, ◌%◌, ◌^◌, ◌<◌, ◌≤◌, Bool, true, false, List, refl, sym, ap, ◌∙◌}
use Rattle.std.proofs.Common.{subst, arith}
use Rattle.std.specs.Prelude.{slice_index, drop, Some, None, cond, bit_or, ◌==◌, ◌&&◌, not, nat_lt}
use Rattle.std.specs.Int.{bit_at}
use Rattle.std.proofs.lemmas.Bool.{and_from, not_from_false, lt-ltb, eq-eqb}
use mathlib.Core.Option as maybe
use Rattle.atomic_table.specs.Table.{State, Me, step, Allows}
use Rattle.pthash.specs.Search.{SearchPlan}
use Rattle.pthash.specs.SearchLaws.{positions_at}
use Rattle.turn_search.specs.declared.layout.TheConstants.{STOP}
use Rattle.turn_search.specs.declared.board.Look.{Look}
use Rattle.turn_search.specs.declared.board.View.{View}
use Rattle.turn_search.specs.Words.{ranks_of, turn_of, bits_from, pilots_from, words_for}
use Rattle.turn_search.specs.Looks.{found_taken, found_free, RejectsBelow, Shows, HasTurn}
use Rattle.turn_search.specs.Rule.{keys_at, Kept}
use Rattle.turn_search.specs.Steps.{past_place, with_claim, after_claim, is_claim, gets_turn, with_load, with_turn, after_load}
use Rattle.turn_search.specs.Told.{HasTurnIfHeld, ClaimTold, LoadTold, LookTold, BitTold, StoreTold, PassTold, StopTold}
use Rattle.turn_search.specs.Passes.{IsLaid, IsSeated}
use Rattle.turn_search.proofs.Moves.{not_none, same_rank}
use Rattle.turn_search.proofs.LookLemmas.{position_below}
use Rattle.turn_search.proofs.ClaimKept.{claim_allowed}
use Rattle.turn_search.proofs.LoadKept.{load_allowed, look_allowed}
use Rattle.turn_search.proofs.CommitKept.{bit_allowed, store_allowed}
use Rattle.turn_search.proofs.TurnKept.{pass_allowed, stop_allowed}

-- the states that keep the rule of a plan
abbrev pub Keeps : SearchPlan → State (Unit {0}) View → Type 0
Keeps plan s = Kept plan s.words s.views

module _ (plan key : SearchPlan) (words slots : ℕ) (pilots : List ℕ) (bits size : ℕ) (hashes : List ℕ)
    (laid : IsLaid plan key words slots pilots bits size hashes) (id : ℕ) (me : Me (Unit {0}) View) where
  -- kind 2
  pub may_claim : (place mask : ℕ) → me.0.place ≡ place → me.0.claim ≡ None → place < ranks_of plan → mask ≡ 2 ^ (place % 64) →
      (1 + place / 64 < words) × Allows (Keeps key) slots id me (1 + place / 64) (λ n. bit_or n mask)
      (ClaimTold (step slots (1 + place / 64) mask 0 maybe.none) me)
  may_claim place mask at none left is = (
    omega (arith, laid.words_are),
    subst (λ k. Allows (Keeps k) slots id me (1 + place / 64) (λ n. bit_or n mask) (ClaimTold (step slots (1 + place / 64) mask 0 maybe.none) me))
        (sym laid.same_key)
        (subst (λ p. Allows (Keeps plan) slots id me (1 + p / 64) (λ n. bit_or n mask) (ClaimTold (step slots (1 + p / 64) mask 0 maybe.none) me)) at
        (claim_allowed plan slots id me mask none (omega (arith, at)) (is ∙ ap (λ p. 2 ^ (p % 64)) (sym at)))),
  )

  -- kind 3
  pub may_load : (0 < words) × Allows (Keeps key) slots id me 0 (λ n. n) (LoadTold (step slots 0 0 0 maybe.none) me)
  may_load = (omega (arith, laid.words_are), load_allowed key slots id me)

  -- kind 4
  pub may_look : (first word : ℕ) → first ≡ bits_from plan → me.0.plan ≡ plan → me.0.bits ≡ 0 → word < words_for plan.size →
      (first + word < words) × Allows (Keeps key) slots id me (first + word) (λ n. n) (LookTold (step slots (first + word) 0 0 maybe.none) me)
  may_look first word from same zero below =
      subst (λ f. (f + word < words) × Allows (Keeps key) slots id me (f + word) (λ n. n) (LookTold (step slots (f + word) 0 0 maybe.none) me)) (sym from) (
        omega (arith, laid.words_are),
        subst (λ k. Allows (Keeps k) slots id me (bits_from plan + word) (λ n. n) (LookTold (step slots (bits_from plan + word) 0 0 maybe.none) me))
            (sym laid.same_key)
            (look_allowed plan slots id word me same zero),
      )

  -- kind 5
  pub may_set : (first rank k position mask : ℕ) → first ≡ bits_from plan → Shows me.0 rank k → me.0.bits < keys_at plan rank →
      me.0.wrote ≡ false →
      position ≡ slice_index (positions_at plan rank k) me.0.bits → mask ≡ 2 ^ (position % 64) →
      (first + position / 64 < words) × Allows (Keeps key) slots id me (first + position / 64) (λ n. bit_or n mask)
      (BitTold (step slots (first + position / 64) mask 0 maybe.none) me)
  may_set first rank k position mask from shows left quiet here is =
      let below : position < plan.size = subst (λ p. p < plan.size) (sym here) (position_below plan rank k me.0.bits laid.searchable.has_position left) in
      subst (λ f. (f + position / 64 < words) × Allows (Keeps key) slots id me (f + position / 64) (λ n. bit_or n mask)
      (BitTold (step slots (f + position / 64) mask 0 maybe.none) me)) (sym from) (
        omega (arith, laid.words_are),
        subst (λ q. Allows (Keeps q) slots id me (bits_from plan + position / 64) (λ n. bit_or n mask)
            (BitTold (step slots (bits_from plan + position / 64) mask 0 maybe.none) me))
            (sym laid.same_key)
            (subst (λ p. Allows (Keeps plan) slots id me (bits_from plan + p / 64) (λ n. bit_or n mask)
            (BitTold (step slots (bits_from plan + p / 64) mask 0 maybe.none) me)) (sym here)
            (bit_allowed plan slots id rank k mask me laid.searchable.has_position shows left quiet (is ∙ ap (λ p. 2 ^ (p % 64)) here))),
      )

  -- kind 6
  pub may_store : (first rank k : ℕ) → first ≡ pilots_from plan → Shows me.0 rank k → me.0.bits ≡ keys_at plan rank → rank < ranks_of plan →
      (first + rank < words) × Allows (Keeps key) slots id me (first + rank) (λ _. k) (λ _. StoreTold (step slots (first + rank) k 0 maybe.none) me k)
  may_store first rank k from shows full within =
      subst (λ f. (f + rank < words) × Allows (Keeps key) slots id me (f + rank) (λ _. k) (λ _. StoreTold (step slots (f + rank) k 0 maybe.none) me k))
      (sym from) (
        omega (arith, laid.words_are),
        subst (λ q. Allows (Keeps q) slots id me (pilots_from plan + rank) (λ _. k)
            (λ _. StoreTold (step slots (pilots_from plan + rank) k 0 maybe.none) me k)) (sym laid.same_key)
            (store_allowed plan slots id rank k me laid.searchable.has_position shows full),
      )

  -- kind 7
  pub may_pass : (rank : ℕ) → me.0.holds ≡ true → me.0.claim ≡ Some rank → me.0.bits ≡ keys_at plan rank → me.0.wrote ≡ true →
      (0 < words) × Allows (Keeps key) slots id me 0 (λ n. (n + 1) % 2 ^ 64) (PassTold (step slots 0 1 0 maybe.none) me)
  may_pass rank held claims full wrote = (
    omega (arith, laid.words_are),
    subst (λ q. Allows (Keeps q) slots id me 0 (λ n. (n + 1) % 2 ^ 64) (PassTold (step slots 0 1 0 maybe.none) me)) (sym laid.same_key)
        (pass_allowed plan slots id rank me (omega (arith, laid.ranks)) held claims full wrote),
  )

  -- kind 8
  pub may_stop : (rank : ℕ) → me.0.holds ≡ true → me.0.claim ≡ Some rank → me.0.bits ≡ 0 → RejectsBelow me.0 rank plan.limit →
      (0 < words) × Allows (Keeps key) slots id me 0 (λ n. bit_or n STOP) (StopTold (step slots 0 STOP 0 maybe.none) me)
  may_stop rank held claims nothing rejects = (
    omega (arith, laid.words_are),
    subst (λ q. Allows (Keeps q) slots id me 0 (λ n. bit_or n STOP) (StopTold (step slots 0 STOP 0 maybe.none) me)) (sym laid.same_key)
        (stop_allowed plan slots id rank me (omega (arith, laid.ranks)) laid.searchable.has_position held claims nothing rejects),
  )

-- a pass after a claim bit was set
pub seated_on : (me after : Me (Unit {0}) View) (place found : ℕ) → IsSeated me place → me.0.claim ≡ None → place < ranks_of me.0.plan →
    after ≡ (after_claim me.0 found, me.1) → IsSeated after (place + 1)
seated_on me after place found seated none left told =
    subst (λ m. IsSeated m (place + 1)) (sym told)
    (either_way (bit_at found (me.0.place % 64) == 1))
  where
    unheld : me.0.holds ≡ true → ⊥
    unheld held = let was = seated.has_turn held in not_none me.0.claim was.0 none was.1.claims

    either_way : (set : Bool) → IsSeated (cond set (past_place me.0) (with_claim me.0), me.1) (place + 1)
    either_way true = record {
      no_slots = seated.no_slots;
      place_is = omega (arith, seated.place_is);
      place_within = omega arith;
      claim_is = λ rank claims. absurd (not_none me.0.claim rank none claims);
      has_turn = λ held. absurd (unheld held);
    }
    either_way false = record {
      no_slots = seated.no_slots;
      place_is = omega (arith, seated.place_is);
      place_within = omega arith;
      claim_is = λ rank claims.
          let same : me.0.place ≡ rank = same_rank (with_claim me.0).claim me.0.place rank refl claims in
          omega (arith, seated.place_is);
      has_turn = λ held. absurd (unheld held);
    }

-- a pass after a step that changed neither place nor claim
pub seated_same : (me after : Me (Unit {0}) View) (place : ℕ) → IsSeated me place → after.1 ≡ me.1 → after.0.place ≡ me.0.place →
    after.0.plan ≡ me.0.plan →
    ((rank : ℕ) → after.0.claim ≡ Some rank → me.0.claim ≡ Some rank) → HasTurnIfHeld after.0 → IsSeated after place
seated_same me after place seated slots at plan claims turn = record {
  no_slots = slots ∙ seated.no_slots;
  place_is = at ∙ seated.place_is;
  place_within = subst (λ (q : SearchPlan). place ≤ ranks_of q) (sym plan) seated.place_within;
  claim_is = λ rank is. seated.claim_is rank (claims rank is);
  has_turn = turn;
}

-- a view that holds the turn still has it after steps that leave its claim and its looks
pub turn_stays : (view after : View) → after.plan ≡ view.plan → after.claim ≡ view.claim → after.looks ≡ view.looks → after.mark ≡ view.mark →
    (after.holds ≡ true → view.holds ≡ true) → HasTurnIfHeld view → HasTurnIfHeld after
turn_stays view after plan claim looks mark held turn now =
    let was = turn (held now) in (
      was.0,
      record {
        claims = claim ∙ was.1.claims;
        state = was.1.state;
        reached = rw plan was.1.reached;
        sees = record {
          marked = rw (mark, looks) was.1.sees.marked;
          taken = λ p below found. was.1.sees.taken p (subst (λ (q : SearchPlan). p < q.size) plan below)
              (subst (λ l. found_taken l p ≡ true) looks found);
          free = λ p below found. was.1.sees.free p (subst (λ (q : SearchPlan). p < q.size) plan below)
              (subst (λ (x : ℕ × List Look). found_free (drop x.0 x.1) p ≡ true) (λ i. (mark i, looks i)) found);
        };
      },
    )

-- a view gets the turn that it claims, where it doesn't hold it already
pub came_turn : (view : View) (found rank : ℕ) → found < STOP → view.claim ≡ Some rank → turn_of found ≡ rank →
    (after_load view found).holds ≡ true
came_turn view found rank running claims turn =
    elim view.holds as (λ b. view.holds ≡ b → (after_load view found).holds ≡ true) [
      | true ↦ λ held. still (gets_turn view found) held
      | false ↦ λ idle.
          let mine : is_claim view.claim (turn_of found) ≡ true = ap (λ c. is_claim c (turn_of found)) claims ∙ eq-eqb rank (turn_of found) (sym turn) in
          let gets : gets_turn view found ≡ true =
          and_from (nat_lt found STOP) (is_claim view.claim (turn_of found) && not view.holds) (lt-ltb found STOP running)
          (and_from (is_claim view.claim (turn_of found)) (not view.holds) mine (not_from_false view.holds idle)) in
          ap (λ b. (cond b (with_turn (with_load view found)) (with_load view found)).holds) gets
    ] refl
  where
    still : (b : Bool) → view.holds ≡ true → (cond b (with_turn (with_load view found)) (with_load view found)).holds ≡ true
    still true held = refl
    still false held = held

-- so its looks are true of the state at that rank
pub has_turn_of : (view : View) (rank : ℕ) → HasTurnIfHeld view → view.holds ≡ true → view.claim ≡ Some rank → HasTurn view rank
has_turn_of view rank turn held claims =
    let now = turn held in
    subst (HasTurn view) (same_rank view.claim now.0 rank now.1.claims claims) now.1
