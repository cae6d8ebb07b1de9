-- A bit more, and the store of the pilot, keep the rule.
use Rattle.std.proofs.Common.{◌≡◌, ◌≢◌, ℕ, ◌+◌, ◌/◌, ◌%◌, ◌^◌, ◌<◌, ◌≤◌, Bool, true, false, ◌||◌, List}
use Rattle.std.proofs.Common.{[], ◌∷◌, take, refl, sym, ap}
use Rattle.std.proofs.Common.{◌∙◌, subst, ⊎_elim, arith}
use Rattle.std.specs.Prelude.{slice_index, slice_set, Some, None, bit_or, nat_eq}
use Rattle.std.specs.FinSet.{contains}
use Rattle.std.proofs.Math.Bool.{or-false}
use Rattle.std.proofs.lemmas.Bool.{both_ways, cases_eq, eq-eqb, ne_eqb}
use Rattle.std.proofs.lemmas.List.{take_more, get_or-set_same, get_or-set_other}
use Rattle.std.proofs.lemmas.List.Folds.{list_any-append}
use mathlib.Core.Option as maybe
use Rattle.atomic_table.specs.Table.{State, Me, step, keeps, Allows}
use Rattle.atomic_table.proofs.Lists.{set_here}
use Rattle.pthash.specs.Search.{SearchPlan, is_among}
use Rattle.pthash.specs.SearchLaws.{positions_at}
use Rattle.word_bits.specs.Bits.{set_bit}
use Rattle.word_bits.specs.Laws.{is_set-set_same, is_set-set_other}
use Rattle.turn_search.specs.declared.layout.TheConstants.{STOP}
use Rattle.turn_search.specs.declared.board.View.{View}
use Rattle.turn_search.specs.Words.{ranks_of, turn_in, is_taken, pilot_in, bits_from, pilots_from}
use Rattle.turn_search.specs.Looks.{found_taken, Shows}
use Rattle.turn_search.specs.Rule.{pilot_at, front_of, keys_at, Holder, Knows, Kept}
use Rattle.turn_search.specs.Steps.{after_bit, after_store}
use Rattle.turn_search.specs.Told.{BitTold, StoreTold}
use Rattle.turn_search.proofs.WordLemmas.{Grows, grows_bit, grows_pilot, is_set-other_word}
use Rattle.turn_search.proofs.LookLemmas.{shown_is_pilot, length-positions_at, position_below}
use Rattle.turn_search.proofs.Moves.{Stands, stands_within, not_none, same_rank, others_idle, Moves, moved}

-- a front that gains the next position
among_more : (plan : SearchPlan) (rank k count p : ℕ) → count < keys_at plan rank →
    is_among (take (count + 1) (positions_at plan rank k)) p ≡
    (is_among (take count (positions_at plan rank k)) p || nat_eq (slice_index (positions_at plan rank k) count) p)
among_more plan rank k count p below =
    let ps : List ℕ = positions_at plan rank k in
    ap (λ l. is_among l p) (take_more ps count 0 (omega (arith, length-positions_at plan rank k)))
    ∙ list_any-append (λ y. nat_eq y p) (take count ps) (slice_index ps count ∷ [])
    ∙ ap (λ b. is_among (take count ps) p || b) (or-false (nat_eq (slice_index ps count) p))

-- a position more is taken
taken_one_more : (a b : Bool) → (a || (b || true)) ≡ true
taken_one_more true b = refl
taken_one_more false true = refl
taken_one_more false false = refl

-- no other position is
taken_none_more : (a b : Bool) → (a || (b || false)) ≡ (a || b)
taken_none_more true b = refl
taken_none_more false true = refl
taken_none_more false false = refl

module _ (plan : SearchPlan) (room : 1 ≤ plan.size) (words : List ℕ) (views : List View) (r : Kept plan words views) (id : ℕ) (view : View)
    (here : Stands views id view)
    (rank k : ℕ) (shows : Shows view rank k) where
  mine : Knows plan words r.state r.bits view
  mine = r.each id view here

  holder : Holder plan words r.state r.bits view
  holder = mine.holder shows.holds

  -- the rank has its turn
  turn_is : turn_in words ≡ rank
  turn_is = same_rank view.claim (turn_in words) rank holder.claims_turn shows.claims

  -- the pilot shown is the one of the turn's rank
  pilot_is : pilot_at plan r.state (turn_in words) ≡ Some k
  pilot_is =
      let P : SearchPlan → Type 0 = λ q. pilot_at q r.state (turn_in words) ≡ Some k in
      subst P mine.same_plan
      (rw turn_is (shown_is_pilot view r.state rank k (subst (λ (q : SearchPlan). 1 ≤ q.size) (sym mine.same_plan) room) holder.sees shows))

  -- the others keep what they know, and none of them holds
  others : (later : List ℕ) (bits : ℕ) (j : ℕ) (other : View) → j ≢ id → Stands views j other → other.holds ≡ true →
      Holder plan later r.state bits other
  others later bits j other apart there held =
      absurd (both_ways other.holds (others_idle plan words views r id view here holder.claims_turn j other apart there) held)

  -- after a step of the holder that leaves its claim, its looks and the turn
  moves_on : (next : View) (later : List ℕ) (bits : ℕ) → Grows plan words later → next.claim ≡ view.claim → next.holds ≡ true →
      ((p : ℕ) → p < plan.size → is_taken plan later p ≡ (contains r.state.taken p || is_among
      (front_of plan (turn_in words) (pilot_at plan r.state (turn_in words)) bits) p)) →
      ((q : ℕ) → q < turn_in words → pilot_in plan later q ≡ pilot_in plan words q) → Knows plan later r.state bits next →
      Moves plan words views r id later bits next
  moves_on next later bits grows claim held taken pilots knows = record {
    grows = grows;
    pilots = pilots;
    taken = taken;
    unheld = λ all. absurd (both_ways next.holds (all id next (set_here views id next (stands_within views id view here))) held);
    mine = knows;
    others = others later bits;
    claims = λ j other q apart there theirs is. apart (r.alone j id other view q there here theirs (sym claim ∙ is));
  }

  -- what the view knows that only gained a bit or stored its pilot
  knows_on : (next : View) (later : List ℕ) (bits : ℕ) → Grows plan words later → next.plan ≡ view.plan → next.place ≡ view.place →
      next.claim ≡ view.claim →
      next.looks ≡ view.looks → next.last ≡ view.last → next.holds ≡ true → Holder plan later r.state bits next →
      Knows plan later r.state bits next
  knows_on next later bits grows same place claim looks last held h = record {
    same_plan = same ∙ mine.same_plan;
    place_within = omega (arith, place, mine.place_within);
    claimed_before = λ q below. grows.claims q (omega (arith, place, mine.place_within)) (mine.claimed_before q (omega (arith, place)));
    claim_ahead = λ q is. rw grows.turn (mine.claim_ahead q (sym claim ∙ is));
    claim_within = λ q is. mine.claim_within q (sym claim ∙ is);
    claim_set = λ q is. grows.claims q (mine.claim_within q (sym claim ∙ is)) (mine.claim_set q (sym claim ∙ is));
    stays_taken = λ p below found. grows.taken p below (mine.stays_taken p below (ap (λ l. found_taken l p) (sym looks) ∙ found));
    turn_passed = rw (grows.turn, last) mine.turn_passed;
    stop_stays = λ stop. grows.turn ∙ mine.stop_stays (subst (λ n. STOP ≤ n) last stop) ∙ sym last;
    holder = λ _. h;
    set_nothing = λ off. absurd (both_ways next.holds off held);
    wrote_nothing = λ off. absurd (both_ways next.holds off held);
  }

  module _ (left : view.bits < keys_at plan rank) (quiet : view.wrote ≡ false) where
    -- the position whose bit is set next
    abbrev position : ℕ
    position = slice_index (positions_at plan rank k) view.bits

    abbrev later : List ℕ
    later = set_bit words (bits_from plan) position

    -- it is in the table
    in_range : position < plan.size
    in_range = position_below plan rank k view.bits room left

    -- the positions taken afterwards
    bits_are : (p : ℕ) → p < plan.size →
        is_taken plan later p ≡ (contains r.state.taken p
        || is_among (front_of plan (turn_in words) (pilot_at plan r.state (turn_in words)) (view.bits + 1)) p)
    bits_are p below =
        let front : ℕ → Bool = λ n. is_among (take n (positions_at plan rank k)) p in
        let before : is_taken plan words p ≡ (contains r.state.taken p || front view.bits) =
        r.taken p below ∙ ap (λ o. contains r.state.taken p || is_among (front_of plan (turn_in words) o r.bits) p) pilot_is
        ∙ ap (λ n. contains r.state.taken p || is_among (take n (positions_at plan (turn_in words) k)) p) (sym holder.counted)
        ∙ ap (λ q. contains r.state.taken p || is_among (take view.bits (positions_at plan q k)) p) turn_is in
        let after : (contains r.state.taken p || is_among (front_of plan (turn_in words) (pilot_at plan r.state (turn_in words)) (view.bits + 1)) p)
        ≡ (contains r.state.taken p || (front view.bits || nat_eq position p)) =
        ap (λ o. contains r.state.taken p || is_among (front_of plan (turn_in words) o (view.bits + 1)) p) pilot_is
        ∙ ap (λ q. contains r.state.taken p || is_among (take (view.bits + 1) (positions_at plan q k)) p) turn_is
        ∙ ap (λ b. contains r.state.taken p || b) (among_more plan rank k view.bits p left) in
        ⊎_elim
        (λ (same : position ≡ p).
        subst (λ q. is_taken plan later q ≡ true) same (is_set-set_same words (bits_from plan) position (omega (arith, r.count, in_range)))
        ∙ sym (after ∙ ap (λ b. contains r.state.taken p || (front view.bits || b)) (eq-eqb position p same)
        ∙ taken_one_more (contains r.state.taken p) (front view.bits)))
        (λ (other : position ≡ p → ⊥).
        is_set-set_other words (bits_from plan) p position (λ e. other (sym e)) ∙ before
        ∙ sym (after ∙ ap (λ b. contains r.state.taken p || (front view.bits || b)) (ne_eqb position p other)
        ∙ taken_none_more (contains r.state.taken p) (front view.bits)))
        (cases_eq position p)

    -- a pilot's word is no word of bits
    same_pilots : (q : ℕ) → pilot_in plan later q ≡ pilot_in plan words q
    same_pilots q =
        get_or-set_other words (bits_from plan + position / 64) (pilots_from plan + q)
        (bit_or (slice_index words (bits_from plan + position / 64)) (2 ^ (position % 64))) 0
        (λ e. omega (arith, e, in_range))

    -- kind 5 keeps the rule
    bit_moves : Moves plan words views r id later (view.bits + 1) (after_bit view)
    bit_moves =
        let grows : Grows plan words later = grows_bit plan words position in
        moves_on (after_bit view) later (view.bits + 1) grows refl shows.holds bits_are (λ q below. same_pilots q)
        (knows_on (after_bit view) later (view.bits + 1) grows refl refl refl refl refl shows.holds
        record {
          claims_turn = rw grows.turn holder.claims_turn;
          not_stopped = rw grows.turn holder.not_stopped;
          sees = record { marked = holder.sees.marked; taken = holder.sees.taken; free = holder.sees.free };
          counted = refl;
          has_pilot = λ some missing.
              let still : pilot_at plan r.state (turn_in words) ≡ None = subst (λ w. pilot_at plan r.state (w % STOP) ≡ None) grows.turn missing in
              not_none (pilot_at plan r.state (turn_in words)) k still pilot_is;
          all_set = λ wrote. absurd (both_ways view.wrote quiet wrote);
          stored = λ wrote. absurd (both_ways view.wrote quiet wrote);
        })

  module _ (full : view.bits ≡ keys_at plan rank) where
    -- kind 6 keeps the rule
    store_moves : Moves plan words views r id (slice_set words (pilots_from plan + rank) k) r.bits (after_store view)
    store_moves =
        let later : List ℕ = slice_set words (pilots_from plan + rank) k in
        let grows : Grows plan words later = grows_pilot plan words rank k in
        let within : rank < ranks_of plan = mine.claim_within rank shows.claims in
        let word : pilot_in plan later rank ≡ k = get_or-set_same words (pilots_from plan + rank) k 0 (omega (arith, r.count)) in
        moves_on (after_store view) later r.bits grows refl shows.holds
        (λ p below. is_set-other_word words (pilots_from plan + rank) k (bits_from plan) p (λ e. omega (arith, e)) ∙ r.taken p below)
        (λ q below. get_or-set_other words (pilots_from plan + rank) (pilots_from plan + q) k 0 (λ e. omega (arith, e, turn_is)))
        (knows_on (after_store view) later r.bits grows refl refl refl refl refl shows.holds
        record {
          claims_turn = rw grows.turn holder.claims_turn;
          not_stopped = rw grows.turn holder.not_stopped;
          sees = record { marked = holder.sees.marked; taken = holder.sees.taken; free = holder.sees.free };
          counted = holder.counted;
          has_pilot = rw grows.turn holder.has_pilot;
          all_set = λ wrote. rw grows.turn (full ∙ ap (keys_at plan) (sym turn_is));
          stored = λ wrote. rw grows.turn (pilot_is ∙ ap Some (sym word ∙ ap (pilot_in plan later) (sym turn_is)));
        })

-- kind 5
pub bit_allowed : (plan : SearchPlan) (slots id rank k mask : ℕ) (me : Me (Unit {0}) View) → 1 ≤ plan.size → Shows me.0 rank k →
    me.0.bits < keys_at plan rank → me.0.wrote ≡ false →
    mask ≡ 2 ^ (slice_index (positions_at plan rank k) me.0.bits % 64) →
    Allows (λ (s : State (Unit {0}) View). Kept plan s.words s.views) slots id me (bits_from plan + slice_index (positions_at plan rank k) me.0.bits / 64)
    (λ n. bit_or n mask)
    (BitTold (step slots (bits_from plan + slice_index (positions_at plan rank k) me.0.bits / 64) mask 0 maybe.none) me)
bit_allowed plan slots id rank k mask me room shows left quiet is s r deep here fits =
    let position : ℕ = slice_index (positions_at plan rank k) me.0.bits in
    let word : ℕ = bits_from plan + position / 64 in
    let after : View = after_bit me.0 in (
      after,
      keeps,
      tt,
      subst (λ m. Kept plan (slice_set s.words word (bit_or (slice_index s.words word) m)) (slice_set s.views id after)) (sym is)
          (moved plan s.words s.views r id (set_bit s.words (bits_from plan) position) (me.0.bits + 1) after
          (bit_moves plan room s.words s.views r id me.0 here rank k shows left quiet)),
      refl,
    )

-- kind 6
pub store_allowed : (plan : SearchPlan) (slots id rank k : ℕ) (me : Me (Unit {0}) View) → 1 ≤ plan.size → Shows me.0 rank k →
    me.0.bits ≡ keys_at plan rank →
    Allows (λ (s : State (Unit {0}) View). Kept plan s.words s.views) slots id me (pilots_from plan + rank) (λ _. k)
    (λ _. StoreTold (step slots (pilots_from plan + rank) k 0 maybe.none) me k)
store_allowed plan slots id rank k me room shows full s r deep here fits =
    let after : View = after_store me.0 in (
      after,
      keeps,
      tt,
      moved plan s.words s.views r id (slice_set s.words (pilots_from plan + rank) k) r.bits after
          (store_moves plan room s.words s.views r id me.0 here rank k shows full),
      refl,
    )
