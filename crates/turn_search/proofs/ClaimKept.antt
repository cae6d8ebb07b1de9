-- A new table, a split and a claim keep the rule.
use Rattle.std.proofs.Common.{◌≡◌, ◌≢◌, ℕ, ◌+◌, ◌/◌, ◌%◌, ◌^◌, ◌<◌, ◌≤◌, Bool, true, false, ◌||◌, List}
use Rattle.std.proofs.Common.{[], ◌∷◌, ◌++◌, length, replicate, refl}
use Rattle.std.proofs.Common.{sym, ap, ◌∙◌, subst, ⊎_elim, arith, eqb}
use Rattle.std.specs.Prelude.{slice_index, slice_set, Option, Some, None, cond, bit_or, zero, suc}
use Rattle.std.specs.Int.{bit_at}
use Rattle.std.specs.FinSet.{contains, empty, contains-empty}
use Rattle.std.specs.Ordering.{nat_cmp}
use Rattle.std.proofs.lemmas.Bool.{both_ways, cases_lt}
use Rattle.std.proofs.lemmas.List.{get_or-set_other, get_or-replicate, get_or_past, length-replicate}
use Rattle.std.proofs.lemmas.Nat.Bits.{bit_at-zero}
use mathlib.Core.Option.{some-injective, some-ne-none}
use mathlib.Core.Option as maybe
use Rattle.atomic_table.specs.Table.{State, Me, step, keeps, Allows, Splits}
use Rattle.atomic_table.proofs.Lists.{set_again, at_snoc, at_longer}
use Rattle.pthash.specs.Search.{SearchPlan, SearchState, is_among, prefix_of}
use Rattle.word_bits.specs.Bits.{set_bit, is_set}
use Rattle.word_bits.specs.Laws.{is_set-set_same, is_set-set_stays}
use Rattle.turn_search.specs.declared.layout.TheConstants.{STOP}
use Rattle.turn_search.specs.declared.board.View.{View}
use Rattle.turn_search.specs.Words.{ranks_of, turn_word, turn_in, is_claimed, is_taken, pilot_in, word_count, pilots_from, bits_from}
use Rattle.turn_search.specs.Looks.{found_taken}
use Rattle.turn_search.specs.Rule.{pilot_at, front_of, Knows, Kept}
use Rattle.turn_search.specs.Steps.{new_view, past_place, with_claim, after_claim}
use Rattle.turn_search.specs.Told.{ClaimTold}
use Rattle.turn_search.proofs.WordLemmas.{Grows, grows_claim, taken-claim_set}
use Rattle.turn_search.proofs.Moves.{Stands, not_none, same_rank, unclaimed_idle, holder_stays, Moves, moved, none_held}

-- no bits are set yet
pub among_none : (plan : SearchPlan) (rank : ℕ) (pilot : Option ℕ) (p : ℕ) → is_among (front_of plan rank pilot 0) p ≡ false
among_none plan rank None p = refl
among_none plan rank (Some k) p = refl

-- no bit of a word of zeros is set
zero_bit : (first q : ℕ) (words : List ℕ) → ((i : ℕ) → slice_index words i ≡ 0) → is_set words first q ≡ false
zero_bit first q words zeros = ap (λ w. eqb (bit_at w (q % 64)) 1) (zeros (first + q / 64)) ∙ ap (λ b. eqb b 1) (bit_at-zero (q % 64))

-- what the first pass of a new table knows
new_knows : (plan : SearchPlan) (words : List ℕ) (state : SearchState) (last : ℕ) → last % STOP ≤ turn_in words →
    (STOP ≤ last → turn_word words ≡ last) → (bits : ℕ) → Knows plan words state bits (new_view plan last)
new_knows plan words state last passed stays bits = record {
  same_plan = refl;
  place_within = omega arith;
  claimed_before = λ rank below. absurd (omega arith);
  claim_ahead = λ rank claims. absurd (not_none (new_view plan last).claim rank refl claims);
  claim_within = λ rank claims. absurd (not_none (new_view plan last).claim rank refl claims);
  claim_set = λ rank claims. absurd (not_none (new_view plan last).claim rank refl claims);
  stays_taken = λ p below found. absurd (both_ways false refl found);
  turn_passed = passed;
  stop_stays = stays;
  holder = λ held. absurd (both_ways false refl held);
  set_nothing = λ idle. refl;
  wrote_nothing = λ idle. refl;
}

-- where one view stands, it is that one
only_one : (first view : View) (i : ℕ) → Stands (first ∷ []) i view → (i ≡ 0) × (first ≡ view)
only_one first view zero here = (refl, some-injective first view here)
only_one first view (suc i) here = absurd (some-ne-none view (sym here))

-- the rule holds of a new table
pub starts : (plan : SearchPlan) (words : List ℕ) → words ≡ replicate (word_count plan) 0 → Kept plan words (new_view plan 0 ∷ [])
unfolding prefix_of
starts plan words blank =
    let zeros : (i : ℕ) → slice_index words i ≡ 0 = λ i. ap (λ ws. slice_index ws i) blank
    ∙ ⊎_elim (λ (within : i < word_count plan). get_or-replicate (word_count plan) i 0 0 within)
    (λ (past : word_count plan ≤ i). get_or_past (replicate (word_count plan) 0) i 0 (omega (arith, length-replicate {A = ℕ} (word_count plan) 0)))
    (cases_lt i (word_count plan)) in
    let first : turn_in words ≡ 0 = ap (λ w. w % STOP) (zeros 0) in
    record {
      count = ap length blank ∙ length-replicate (word_count plan) 0;
      state = record { pilots = []; taken = empty };
      bits = 0;
      turn_within = omega (arith, first);
      reached = rw first refl;
      passed = λ rank below. absurd (omega (arith, first));
      pilots = λ rank below. absurd (omega (arith, first));
      taken = λ p below. zero_bit (bits_from plan) p words zeros
          ∙ sym (ap (λ b. contains {R = nat_cmp} empty p || b)
          (among_none plan (turn_in words) (pilot_at plan (record { pilots = []; taken = empty }) (turn_in words)) p)
          ∙ ap (λ b. b || false) (contains-empty nat_cmp p));
      stop_below = λ stop. absurd (omega (arith, zeros 0));
      stop_stuck = λ stop. absurd (omega (arith, zeros 0));
      unheld = λ idle. refl;
      each = λ i view here. subst (Knows plan words (record { pilots = []; taken = empty }) 0) (only_one (new_view plan 0) view i here).1
          (new_knows plan words (record { pilots = []; taken = empty }) 0 (omega arith) (λ stop. absurd (omega arith)) 0);
      alone = λ i j one two rank here there a b. (only_one (new_view plan 0) one i here).0 ∙ sym (only_one (new_view plan 0) two j there).0;
    }

-- a split keeps the rule: the new view knows what the other has seen of the turn
pub split_kept : (plan : SearchPlan) (words : List ℕ) (views : List View) (id : ℕ) (view : View) → Kept plan words views → Stands views id view →
    Kept plan words (slice_set views id view ++ new_view view.plan view.last ∷ [])
split_kept plan words views id view r here =
    let mine = r.each id view here in
    let new : View = new_view view.plan view.last in
    let same : slice_set views id view ≡ views = set_again views id view here in
    let knows : Knows plan words r.state r.bits new =
    subst (λ (p : SearchPlan). Knows plan words r.state r.bits (new_view p view.last)) (sym mine.same_plan)
    (new_knows plan words r.state view.last mine.turn_passed mine.stop_stays r.bits) in
    rw same record {
      count = r.count;
      state = r.state;
      bits = r.bits;
      turn_within = r.turn_within;
      reached = r.reached;
      passed = r.passed;
      pilots = r.pilots;
      taken = r.taken;
      stop_below = r.stop_below;
      stop_stuck = r.stop_stuck;
      unheld = λ idle. r.unheld (λ i other there. idle i other (at_longer views (new ∷ []) i other there));
      each = λ i other there. ⊎_elim (λ (old : Stands views i other). r.each i other old)
          (λ (is : new ≡ other). subst (Knows plan words r.state r.bits) is knows) (at_snoc views new other i there);
      alone = λ i j one two rank first second a b.
          ⊎_elim
          (λ (old : Stands views i one).
          ⊎_elim (λ (older : Stands views j two). r.alone i j one two rank old older a b)
          (λ (is : new ≡ two). absurd (not_none two.claim rank (ap (λ (v : View). v.claim) (sym is)) b))
          (at_snoc views new two j second))
          (λ (is : new ≡ one). absurd (not_none one.claim rank (ap (λ (v : View). v.claim) (sym is)) a))
          (at_snoc views new one i first);
    }

-- kind 1
pub split_allowed : (plan : SearchPlan) (id : ℕ) (view : View) →
    Splits (λ (s : State (Unit {0}) View). Kept plan s.words s.views) id view view (new_view view.plan view.last)
split_allowed plan id view s r here = split_kept plan s.words s.views id view r here

module _ (plan : SearchPlan) (words : List ℕ) (views : List View) (r : Kept plan words views) (id : ℕ) (view : View) (here : Stands views id view)
    (none : view.claim ≡ None) (left : view.place < ranks_of plan) where
  abbrev later : List ℕ
  later = set_bit words 1 view.place

  grows : Grows plan words later
  grows = grows_claim plan words view.place left

  mine : Knows plan words r.state r.bits view
  mine = r.each id view here

  idle : view.holds ≡ false
  idle = unclaimed_idle plan words r.state r.bits view mine none

  -- the words of the pilots stay
  same_pilots : (rank : ℕ) → pilot_in plan later rank ≡ pilot_in plan words rank
  same_pilots rank =
      get_or-set_other words (1 + view.place / 64) (pilots_from plan + rank)
      (bit_or (slice_index words (1 + view.place / 64)) (2 ^ (view.place % 64))) 0 (λ e. omega (arith, e))

  -- the bits below the next place are set
  claimed_to : (rank : ℕ) → rank < view.place + 1 → is_claimed later rank ≡ true
  claimed_to rank below =
      ⊎_elim
      (λ (lower : rank < view.place). is_set-set_stays words 1 rank view.place (mine.claimed_before rank lower))
      (λ (last : view.place ≤ rank).
      let same : view.place ≡ rank = omega arith in
      subst (λ q. is_claimed later q ≡ true) same (is_set-set_same words 1 view.place (omega (arith, r.count))))
      (cases_lt rank view.place)

  -- what a view knows that has gone on by a place, with this claim and no other look
  knows_on : (next : View) → next.plan ≡ view.plan → next.place ≡ view.place + 1 → next.holds ≡ false → next.bits ≡ view.bits →
      next.wrote ≡ view.wrote →
      next.last ≡ view.last → ((p : ℕ) → p < plan.size → found_taken next.looks p ≡ true → is_taken plan words p ≡ true) →
      ((rank : ℕ) → next.claim ≡ Some rank → (turn_in words ≤ rank) × (rank < ranks_of plan) × (is_claimed later rank ≡ true)) →
      Knows plan later r.state r.bits next
  knows_on next same place rests bits wrote last looks claims = record {
    same_plan = same ∙ mine.same_plan;
    place_within = omega (arith, place);
    claimed_before = λ rank below. claimed_to rank (omega (arith, place));
    claim_ahead = λ rank is. rw grows.turn (claims rank is).0;
    claim_within = λ rank is. (claims rank is).1;
    claim_set = λ rank is. (claims rank is).2;
    stays_taken = λ p below found. grows.taken p below (looks p below found);
    turn_passed = rw (grows.turn, last) mine.turn_passed;
    stop_stays = λ stop. grows.turn ∙ mine.stop_stays (subst (λ n. STOP ≤ n) last stop) ∙ sym last;
    holder = λ held. absurd (both_ways next.holds rests held);
    set_nothing = λ _. bits ∙ mine.set_nothing idle;
    wrote_nothing = λ _. wrote ∙ mine.wrote_nothing idle;
  }

  -- the facts that don't depend on what was found
  goes_on : (next : View) → next.holds ≡ false → Knows plan later r.state r.bits next →
      ((j : ℕ) (other : View) (rank : ℕ) → j ≢ id → Stands views j other → other.claim ≡ Some rank → next.claim ≡ Some rank → ⊥) →
      Moves plan words views r id later r.bits next
  goes_on next rests knows claims = record {
    grows = grows;
    pilots = λ rank below. same_pilots rank;
    taken = λ p below. taken-claim_set plan words view.place p left ∙ r.taken p below;
    unheld = λ all. r.unheld (none_held views id view next here idle all);
    mine = knows;
    others = λ j other apart there held.
        holder_stays plan words later r.state r.bits other grows (same_pilots (turn_in words)) ((r.each j other there).holder held);
    claims = claims;
  }

  -- the bit was set already
  found_set : Moves plan words views r id later r.bits (past_place view)
  found_set =
      goes_on (past_place view) idle
      (knows_on (past_place view) refl refl idle refl refl refl mine.stays_taken (λ rank is. absurd (not_none view.claim rank none is)))
      (λ j other rank apart there theirs is. not_none view.claim rank none is)

  -- the bit was clear
  found_clear : is_claimed words view.place ≡ false → Moves plan words views r id later r.bits (with_claim view)
  found_clear clear =
      goes_on (with_claim view) idle
      (knows_on (with_claim view) refl refl idle refl refl refl (λ p below found. absurd (both_ways false refl found))
      (λ rank is.
      let same : view.place ≡ rank = same_rank (with_claim view).claim view.place rank refl is in
      subst (λ q. (turn_in words ≤ q) × (q < ranks_of plan) × (is_claimed later q ≡ true)) same (
        ⊎_elim (λ (early : view.place < turn_in words). absurd (both_ways (is_claimed words view.place) clear (r.passed view.place early)))
            (λ (due : turn_in words ≤ view.place). due)
            (cases_lt view.place (turn_in words)),
        left,
        claimed_to view.place (omega arith),
      )))
      (λ j other rank apart there theirs is.
      let same : view.place ≡ rank = same_rank (with_claim view).claim view.place rank refl is in
      both_ways (is_claimed words view.place) clear (ap (is_claimed words) same ∙ (r.each j other there).claim_set rank theirs))

  -- both together
  claim_moves : (found : Bool) → is_claimed words view.place ≡ found →
      Moves plan words views r id later r.bits (cond found (past_place view) (with_claim view))
  claim_moves true is = found_set
  claim_moves false is = found_clear is

-- kind 2
pub claim_allowed : (plan : SearchPlan) (slots id : ℕ) (me : Me (Unit {0}) View) (mask : ℕ) → me.0.claim ≡ None → me.0.place < ranks_of plan →
    mask ≡ 2 ^ (me.0.place % 64) →
    Allows (λ (s : State (Unit {0}) View). Kept plan s.words s.views) slots id me (1 + me.0.place / 64) (λ n. bit_or n mask)
    (ClaimTold (step slots (1 + me.0.place / 64) mask 0 maybe.none) me)
claim_allowed plan slots id me mask none left is s r deep here fits =
    let found : ℕ = slice_index s.words (1 + me.0.place / 64) in (
      after_claim me.0 found,
      keeps,
      tt,
      subst (λ m. Kept plan (slice_set s.words (1 + me.0.place / 64) (bit_or found m)) (slice_set s.views id (after_claim me.0 found))) (sym is)
          (moved plan s.words s.views r id (set_bit s.words 1 me.0.place) r.bits (after_claim me.0 found)
          (claim_moves plan s.words s.views r id me.0 here none left (is_claimed s.words me.0.place) refl)),
      refl,
    )
