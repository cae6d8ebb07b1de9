-- Passing the turn on, and stopping, keep the rule.
use Rattle.std.proofs.Common.{◌≡◌, ◌≢◌, ℕ, ◌+◌, ◌%◌, ◌<◌, ◌≤◌, true, false, ◌||◌, List, [], ◌∷◌, ◌++◌}
use Rattle.std.proofs.Common.{length, take, refl, sym, ap, ◌∙◌, subst}
use Rattle.std.proofs.Common.{⊎_elim, arith, add-one}
use Rattle.std.specs.Prelude.{slice_index, slice_set, Some, None, Ok, Err, ◌-◌, ◌^◌, bit_or}
use Rattle.std.specs.FinSet.{contains}
use Rattle.std.proofs.Math.Bool.{or-false}
use Rattle.std.proofs.lemmas.Bool.{both_ways, cases_lt, false_from_ne_true}
use Rattle.std.proofs.lemmas.List.{take_all, length-set, get_or-set_same, get_or_append_left, get_or-append_right}
use mathlib.Core.Option as maybe
use Rattle.atomic_table.specs.Table.{State, Me, step, keeps, Allows}
use Rattle.pthash.specs.Search.{SearchPlan, SearchState, is_among, prefix_of}
use Rattle.pthash.specs.SearchLaws.{positions_at, with_bucket, contains-positions}
use Rattle.pthash.specs.PrefixLaws.{length-pilots}
use Rattle.turn_search.specs.declared.layout.TheConstants.{STOP}
use Rattle.turn_search.specs.declared.board.View.{View}
use Rattle.turn_search.specs.Words.{ranks_of, turn_of, turn_word, turn_in, is_claimed, is_taken, pilot_in}
use Rattle.turn_search.specs.Looks.{found_taken, RejectsBelow}
use Rattle.turn_search.specs.Rule.{pilot_at, front_of, keys_at, Holder, Knows, Kept}
use Rattle.turn_search.specs.Steps.{after_pass, after_stop}
use Rattle.turn_search.specs.Told.{PassTold, StopTold}
use Rattle.turn_search.proofs.WordLemmas.{claimed-turn_set, taken-turn_set, pilot-turn_set, or_stop}
use Rattle.turn_search.proofs.LookLemmas.{length-positions_at, rejected_has_none}
use Rattle.turn_search.proofs.Moves.{Stands, not_none, same_rank, others_idle, each_of, alone_of}
use Rattle.turn_search.proofs.ClaimKept.{among_none}

-- the search goes on by the pilot of the bucket
pub prefix_of-next : (plan : SearchPlan) (rank k : ℕ) (state : SearchState) → prefix_of plan rank ≡ Ok state → pilot_at plan state rank ≡ Some k →
    prefix_of plan (rank + 1) ≡ Ok (with_bucket plan rank state k)
unfolding prefix_of
prefix_of-next plan rank k state reached pilot = ap (prefix_of plan) (add-one rank) ∙ rw (reached, pilot) refl

-- it is stuck at a bucket that has none
pub prefix_of-stuck : (plan : SearchPlan) (rank : ℕ) (state : SearchState) → prefix_of plan rank ≡ Ok state → pilot_at plan state rank ≡ None →
    prefix_of plan (rank + 1) ≡ Err rank
unfolding prefix_of
prefix_of-stuck plan rank state reached none = ap (prefix_of plan) (add-one rank) ∙ rw (reached, none) refl

module _ (plan : SearchPlan) (small : ranks_of plan < STOP) (words : List ℕ) (views : List View) (r : Kept plan words views) (id : ℕ) (view : View)
    (here : Stands views id view)
    (held : view.holds ≡ true) where
  abbrev turn : ℕ
  turn = turn_in words

  mine : Knows plan words r.state r.bits view
  mine = r.each id view here

  holder : Holder plan words r.state r.bits view
  holder = mine.holder held

  -- the turn word is the turn
  running : turn_word words ≡ turn
  running = omega (arith, holder.not_stopped)

  -- the turn's rank is one of the table
  within : turn < ranks_of plan
  within = mine.claim_within turn holder.claims_turn

  -- nobody else holds
  idle : (j : ℕ) (other : View) → j ≢ id → Stands views j other → other.holds ≡ false
  idle = others_idle plan words views r id view here holder.claims_turn

  -- what another view knows after a step of the holder on the turn word
  other_knows : (value : ℕ) (state : SearchState) (bits : ℕ) → turn ≤ turn_of value → (j : ℕ) (other : View) → j ≢ id →
      Stands views j other →
      ((rank : ℕ) → other.claim ≡ Some rank → turn_of value ≤ rank) → Knows plan (slice_set words 0 value) state bits other
  other_knows value state bits on j other apart there ahead =
      let k = r.each j other there in
      let now : turn_word (slice_set words 0 value) ≡ value = get_or-set_same words 0 value 0 (omega (arith, r.count)) in
      record {
        same_plan = k.same_plan;
        place_within = k.place_within;
        claimed_before = λ rank below. claimed-turn_set words value rank ∙ k.claimed_before rank below;
        claim_ahead = λ rank claims. rw now (ahead rank claims);
        claim_within = k.claim_within;
        claim_set = λ rank claims. claimed-turn_set words value rank ∙ k.claim_set rank claims;
        stays_taken = λ p below found. taken-turn_set plan words value p ∙ k.stays_taken p below found;
        turn_passed = rw now (omega (arith, k.turn_passed));
        stop_stays = λ stop. absurd (omega (arith, k.stop_stays stop, holder.not_stopped));
        holder = λ theirs. absurd (both_ways other.holds (idle j other apart there) theirs);
        set_nothing = k.set_nothing;
        wrote_nothing = k.wrote_nothing;
      }

  -- what the holder knows after its step, in which it gave up the turn
  mine_after : (value : ℕ) (state : SearchState) (next : View) → turn ≤ turn_of value → next.plan ≡ view.plan → next.place ≡ view.place →
      next.holds ≡ false →
      next.last ≡ value → next.bits ≡ 0 → next.wrote ≡ false →
      ((p : ℕ) → p < plan.size → found_taken next.looks p ≡ true → is_taken plan words p ≡ true) →
      ((rank : ℕ) → next.claim ≡ Some rank → (turn_of value ≤ rank) × (rank < ranks_of plan) × (is_claimed words rank ≡ true)) →
      Knows plan (slice_set words 0 value) state 0 next
  mine_after value state next on same place rests last bits wrote looks claims =
      let now : turn_word (slice_set words 0 value) ≡ value = get_or-set_same words 0 value 0 (omega (arith, r.count)) in
      record {
        same_plan = same ∙ mine.same_plan;
        place_within = omega (arith, place, mine.place_within);
        claimed_before = λ rank below. claimed-turn_set words value rank ∙ mine.claimed_before rank (omega (arith, place));
        claim_ahead = λ rank is. rw now (claims rank is).0;
        claim_within = λ rank is. (claims rank is).1;
        claim_set = λ rank is. claimed-turn_set words value rank ∙ (claims rank is).2;
        stays_taken = λ p below found. taken-turn_set plan words value p ∙ looks p below found;
        turn_passed = rw (now, last) (omega arith);
        stop_stays = λ stop. now ∙ sym last;
        holder = λ off. absurd (both_ways next.holds rests off);
        set_nothing = λ _. bits;
        wrote_nothing = λ _. wrote;
      }

  module _ (full : view.bits ≡ keys_at plan turn) (wrote : view.wrote ≡ true) where
    abbrev pilot : ℕ
    pilot = pilot_in plan words turn

    abbrev later : List ℕ
    later = slice_set words 0 (turn + 1)

    abbrev state : SearchState
    state = with_bucket plan turn r.state pilot

    now : turn_in later ≡ turn + 1
    now = ap turn_of (get_or-set_same words 0 (turn + 1) 0 (omega (arith, r.count))) ∙ omega (arith, within)

    pilot_is : pilot_at plan r.state turn ≡ Some pilot
    pilot_is = holder.stored wrote

    -- the positions taken are those of the next state
    all_taken : (p : ℕ) → is_taken plan words p ≡ (contains r.state.taken p || is_among (front_of plan turn (pilot_at plan r.state turn) r.bits) p) →
        is_taken plan later p ≡ (contains state.taken p || is_among (front_of plan (turn_in later) (pilot_at plan state (turn_in later)) 0) p)
    all_taken p before =
        let ps : List ℕ = positions_at plan turn pilot in
        let whole : take r.bits ps ≡ ps = take_all r.bits ps (omega (arith, length-positions_at plan turn pilot, holder.counted)) in
        taken-turn_set plan words (turn + 1) p ∙ before
        ∙ ap (λ o. contains r.state.taken p || is_among (front_of plan turn o r.bits) p) pilot_is
        ∙ ap (λ l. contains r.state.taken p || is_among l p) whole
        ∙ sym (contains-positions r.state.taken ps p)
        ∙ sym (or-false (contains state.taken p))
        ∙ sym (ap (λ b. contains state.taken p || b) (among_none plan (turn_in later) (pilot_at plan state (turn_in later)) p))

    -- the pilots of the next state
    all_pilots : (rank : ℕ) → rank < turn + 1 → pilot_in plan later rank ≡ slice_index state.pilots rank
    all_pilots rank below =
        let known : length r.state.pilots ≡ turn = length-pilots plan turn r.state r.reached in
        pilot-turn_set plan words (turn + 1) rank
        ∙ ⊎_elim
        (λ (lower : rank < turn). r.pilots rank lower ∙ sym (get_or_append_left r.state.pilots (pilot ∷ []) 0 rank (omega (arith, known))))
        (λ (last : turn ≤ rank).
        let same : turn ≡ rank = omega arith in
        let zero_on : turn - turn ≡ 0 = omega arith in
        subst (λ q. pilot_in plan words q ≡ slice_index (r.state.pilots ++ pilot ∷ []) q) same
        (sym (get_or-append_right r.state.pilots (pilot ∷ []) turn turn 0 known (omega arith) ∙ rw zero_on refl)))
        (cases_lt rank turn)

    -- kind 7 keeps the rule
    pass_kept : Kept plan later (slice_set views id (after_pass view turn))
    pass_kept =
        let next : View = after_pass view turn in
        let word : turn_word later ≡ turn + 1 = get_or-set_same words 0 (turn + 1) 0 (omega (arith, r.count)) in
        let on : turn_of (turn + 1) ≡ turn + 1 = omega (arith, within) in
        record {
          count = length-set words 0 (turn + 1) ∙ r.count;
          state = state;
          bits = 0;
          turn_within = rw now (omega (arith, within));
          reached = rw now (prefix_of-next plan turn pilot r.state r.reached pilot_is);
          passed = λ rank below.
              claimed-turn_set words (turn + 1) rank
              ∙ ⊎_elim (λ (lower : rank < turn). r.passed rank lower)
              (λ (last : turn ≤ rank).
              let same : turn ≡ rank = omega (arith, now) in
              subst (λ q. is_claimed words q ≡ true) same (mine.claim_set turn holder.claims_turn))
              (cases_lt rank turn);
          pilots = λ rank below. all_pilots rank (omega (arith, now));
          taken = λ p below. all_taken p (r.taken p below);
          stop_below = λ stop. absurd (omega (arith, word, within));
          stop_stuck = λ stop. absurd (omega (arith, word, within));
          unheld = λ _. refl;
          each = λ j other there. each_of plan views id next (Knows plan later state 0)
              (mine_after (turn + 1) state next (omega (arith, on)) refl refl refl refl refl refl (λ p below found. absurd (both_ways false refl found))
              (λ rank is. absurd (not_none next.claim rank refl is)))
              (λ i one apart at. other_knows (turn + 1) state 0 (omega (arith, on)) i one apart at
              (λ rank claims.
              let ahead : turn ≤ rank = (r.each i one at).claim_ahead rank claims in
              ⊎_elim (λ (more : turn < rank). omega (arith, on))
              (λ (last : rank ≤ turn).
              let same : rank ≡ turn = omega arith in
              absurd (apart (r.alone i id one view rank at here claims (holder.claims_turn ∙ ap Some (sym same)))))
              (cases_lt turn rank)))
              j other there;
          alone = alone_of plan views id next r.alone (λ j other rank apart there theirs is. not_none next.claim rank refl is);
        }

  module _ (room : 1 ≤ plan.size) (nothing : view.bits ≡ 0) (rejects : RejectsBelow view turn plan.limit) where
    abbrev stopped : List ℕ
    stopped = slice_set words 0 (turn + STOP)

    -- no pilot fits
    none_fits : pilot_at plan r.state turn ≡ None
    none_fits =
        subst (λ (q : SearchPlan). pilot_at q r.state turn ≡ None) mine.same_plan
        (rejected_has_none view r.state turn (subst (λ (q : SearchPlan). 1 ≤ q.size) (sym mine.same_plan) room) holder.sees
        (subst (λ (q : SearchPlan). RejectsBelow view turn q.limit) (sym mine.same_plan) rejects))

    -- kind 8 keeps the rule
    stop_kept : Kept plan stopped (slice_set views id (after_stop view turn))
    stop_kept =
        let next : View = after_stop view turn in
        let word : turn_word stopped ≡ turn + STOP = get_or-set_same words 0 (turn + STOP) 0 (omega (arith, r.count)) in
        let on : turn_of (turn + STOP) ≡ turn = omega (arith, within) in
        let now : turn_in stopped ≡ turn = ap turn_of word ∙ on in
        let quiet : view.wrote ≡ false =
        false_from_ne_true view.wrote (λ wrote. not_none (pilot_at plan r.state turn) (pilot_in plan words turn) none_fits (holder.stored wrote)) in
        let zero : r.bits ≡ 0 = sym holder.counted ∙ nothing in
        record {
          count = length-set words 0 (turn + STOP) ∙ r.count;
          state = r.state;
          bits = 0;
          turn_within = rw now r.turn_within;
          reached = rw now r.reached;
          passed = λ rank below. claimed-turn_set words (turn + STOP) rank ∙ r.passed rank (omega (arith, now));
          pilots = λ rank below. pilot-turn_set plan words (turn + STOP) rank ∙ r.pilots rank (omega (arith, now));
          taken = λ p below. taken-turn_set plan words (turn + STOP) p ∙ rw now (subst (λ n. is_taken plan words p
              ≡ (contains r.state.taken p || is_among (front_of plan turn (pilot_at plan r.state turn) n) p)) zero (r.taken p below));
          stop_below = λ stop. rw now within;
          stop_stuck = λ stop. rw now none_fits;
          unheld = λ _. refl;
          each = λ j other there. each_of plan views id next (Knows plan stopped r.state 0)
              (mine_after (turn + STOP) r.state next (omega (arith, on)) refl refl refl refl nothing quiet mine.stays_taken
              (λ rank is. (rw on (mine.claim_ahead rank is), mine.claim_within rank is, mine.claim_set rank is)))
              (λ i one apart at. other_knows (turn + STOP) r.state 0 (omega (arith, on)) i one apart at
              (λ rank claims. rw on ((r.each i one at).claim_ahead rank claims)))
              j other there;
          alone = alone_of plan views id next r.alone
              (λ j other rank apart there theirs is. apart (r.alone j id other view rank there here theirs is));
        }

-- kind 7
pub pass_allowed : (plan : SearchPlan) (slots id rank : ℕ) (me : Me (Unit {0}) View) → ranks_of plan < STOP → me.0.holds ≡ true →
    me.0.claim ≡ Some rank →
    me.0.bits ≡ keys_at plan rank → me.0.wrote ≡ true →
    Allows (λ (s : State (Unit {0}) View). Kept plan s.words s.views) slots id me 0 (λ n. (n + 1) % 2 ^ 64) (PassTold (step slots 0 1 0 maybe.none) me)
pass_allowed plan slots id rank me small held claims full wrote s r deep here fits =
    let h = (r.each id me.0 here).holder held in
    let turn : ℕ = turn_in s.words in
    let same : turn ≡ rank = same_rank me.0.claim turn rank h.claims_turn claims in
    let word : turn_word s.words ≡ turn = omega (arith, h.not_stopped) in
    let next : (turn_word s.words + 1) % 2 ^ 64 ≡ turn + 1 = omega (arith, h.not_stopped) in
    let all : me.0.bits ≡ keys_at plan turn = full ∙ ap (keys_at plan) (sym same) in (
      after_pass me.0 (turn_word s.words),
      keeps,
      tt,
      subst (λ (t : ℕ × ℕ). Kept plan (slice_set s.words 0 t.0) (slice_set s.views id (after_pass me.0 t.1))) (λ i. (sym next i, sym word i))
          (pass_kept plan small s.words s.views r id me.0 here held all wrote),
      record { view = refl; turn = h.claims_turn ∙ ap Some (sym word) },
    )

-- kind 8
pub stop_allowed : (plan : SearchPlan) (slots id rank : ℕ) (me : Me (Unit {0}) View) → ranks_of plan < STOP → 1 ≤ plan.size → me.0.holds ≡ true →
    me.0.claim ≡ Some rank →
    me.0.bits ≡ 0 → RejectsBelow me.0 rank plan.limit →
    Allows (λ (s : State (Unit {0}) View). Kept plan s.words s.views) slots id me 0 (λ n. bit_or n STOP) (StopTold (step slots 0 STOP 0 maybe.none) me)
stop_allowed plan slots id rank me small room held claims nothing rejects s r deep here fits =
    let h = (r.each id me.0 here).holder held in
    let turn : ℕ = turn_in s.words in
    let same : turn ≡ rank = same_rank me.0.claim turn rank h.claims_turn claims in
    let word : turn_word s.words ≡ turn = omega (arith, h.not_stopped) in
    let next : bit_or (turn_word s.words) STOP ≡ turn + STOP = or_stop (turn_word s.words) h.not_stopped ∙ ap (λ n. n + STOP) word in
    let all : RejectsBelow me.0 turn plan.limit = subst (λ q. RejectsBelow me.0 q plan.limit) (sym same) rejects in (
      after_stop me.0 (turn_word s.words),
      keeps,
      tt,
      subst (λ (t : ℕ × ℕ). Kept plan (slice_set s.words 0 t.0) (slice_set s.views id (after_stop me.0 t.1))) (λ i. (sym next i, sym word i))
          (stop_kept plan small s.words s.views r id me.0 here held room nothing all),
      record { view = refl; turn = h.claims_turn ∙ ap Some (sym word) },
    )
