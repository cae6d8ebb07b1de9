-- A load of the turn word, and a load of a word of the positions' bits, keep the rule.
use Rattle.std.proofs.Common.{◌≡◌, ℕ, ◌+◌, ◌-◌, ◌/◌, ◌%◌, ◌<◌, Bool, true, false, ◌&&◌, ◌||◌, List, [], ◌∷◌}
use Rattle.std.proofs.Common.{◌++◌, length, drop, refl, sym}
use Rattle.std.proofs.Common.{ap, ◌∙◌, subst, arith, eqb}
use Rattle.std.specs.Prelude.{slice_index, slice_set, Option, Some, None, cond, nat_lt, not, ◌==◌}
use Rattle.std.specs.Int.{bit_at}
use Rattle.std.specs.FinSet.{contains}
use Rattle.std.proofs.Math.Bool.{or-false}
use Rattle.std.proofs.lemmas.Bool.{false_from_ne_true, both_ways, and_parts, not-true, ltb-true, eqb-true}
use Rattle.std.proofs.lemmas.List.{set-get_or, length-append, drop-append-le, drop_all}
use Rattle.std.proofs.lemmas.List.Folds.{list_any-append}
use mathlib.Core.Option.{some-injective}
use mathlib.Core.Option as maybe
use lib.ListN.{get_elem?}
use Rattle.atomic_table.specs.Table.{State, Me, step, keeps, Allows}
use Rattle.atomic_table.proofs.Lists.{set_here}
use Rattle.pthash.specs.Search.{SearchPlan, is_among}
use Rattle.turn_search.specs.declared.layout.TheConstants.{STOP}
use Rattle.turn_search.specs.declared.board.Look.{Look}
use Rattle.turn_search.specs.declared.board.View.{View}
use Rattle.turn_search.specs.Words.{turn_word, turn_in, is_taken, bits_from}
use Rattle.turn_search.specs.Looks.{found_taken, found_free, late_looks, SeesState}
use Rattle.turn_search.specs.Rule.{pilot_at, front_of, Holder, Knows, Kept}
use Rattle.turn_search.specs.Steps.{is_claim, gets_turn, with_load, with_turn, after_load, after_look}
use Rattle.turn_search.specs.Told.{HasTurnIfHeld, LoadTold, LookTold}
use Rattle.turn_search.proofs.WordLemmas.{grows_same}
use Rattle.turn_search.proofs.Moves.{Stands, stands_within, Moves, moved, none_held}
use Rattle.turn_search.proofs.ClaimKept.{among_none}

-- a view that claims a rank by the test claims it
claims_it : (claim : Option ℕ) (rank : ℕ) → is_claim claim rank ≡ true → claim ≡ Some rank
claims_it None rank is = absurd (both_ways false refl is)
claims_it (Some one) rank is = ap Some (eqb-true one rank is)

-- while no bit is set for the turn's rank, the positions taken are those of the state
taken_is : (plan : SearchPlan) (words : List ℕ) (views : List View) (r : Kept plan words views) (p : ℕ) → r.bits ≡ 0 → p < plan.size →
    is_taken plan words p ≡ contains r.state.taken p
taken_is plan words views r p zero below =
    let rank : ℕ = turn_in words in
    let pilot : Option ℕ = pilot_at plan r.state rank in
    r.taken p below
    ∙ ap (λ n. contains r.state.taken p || is_among (front_of plan rank pilot n) p) zero
    ∙ ap (λ b. contains r.state.taken p || b) (among_none plan rank pilot p)
    ∙ or-false (contains r.state.taken p)

-- a holder of the rule has the turn of the rank that it claims
pub has_turn : (plan : SearchPlan) (words : List ℕ) (views : List View) (r : Kept plan words views) (view : View) → Knows plan words r.state r.bits view →
    HasTurnIfHeld view
has_turn plan words views r view k held =
    let h : Holder plan words r.state r.bits view = k.holder held in
    (turn_in words, record { claims = h.claims_turn; state = r.state; reached = rw k.same_plan r.reached; sees = h.sees })

module _ (plan : SearchPlan) (words : List ℕ) (views : List View) (r : Kept plan words views) (id : ℕ) (view : View) (here : Stands views id view) where
  mine : Knows plan words r.state r.bits view
  mine = r.each id view here

  -- the facts of a step that changes no word
  looks_on : (next : View) → next.claim ≡ view.claim →
      (((i : ℕ) (other : View) → Stands (slice_set views id next) i other → other.holds ≡ false) →
      r.bits ≡ 0) →
      Knows plan words r.state r.bits next → Moves plan words views r id words r.bits next
  looks_on next claim unheld knows = record {
    grows = grows_same plan words;
    pilots = λ rank below. refl;
    taken = r.taken;
    unheld = unheld;
    mine = knows;
    others = λ j other apart there held. (r.each j other there).holder held;
    claims = λ j other rank apart there theirs is. apart (r.alone j id other view rank there here theirs (sym claim ∙ is));
  }

  -- where the view holds the turn or not as before, nobody holds afterwards only if nobody held before
  none_holds : (next : View) → next.holds ≡ view.holds →
      ((i : ℕ) (other : View) → Stands (slice_set views id next) i other → other.holds ≡ false) → r.bits ≡ 0
  none_holds next same all =
      let idle : view.holds ≡ false = sym same ∙ all id next (set_here views id next (stands_within views id view here)) in
      r.unheld (none_held views id view next here idle all)

  -- a view that has loaded the turn word knows its value
  knows_loaded : (next : View) → next.plan ≡ view.plan → next.place ≡ view.place → next.claim ≡ view.claim → next.looks ≡ view.looks →
      next.last ≡ turn_word words →
      (next.holds ≡ true → Holder plan words r.state r.bits next) → (next.holds ≡ false → (next.bits ≡ 0) × (next.wrote ≡ false)) →
      Knows plan words r.state r.bits next
  knows_loaded next same place claim looks last holder rests = record {
    same_plan = same ∙ mine.same_plan;
    place_within = omega (arith, place, mine.place_within);
    claimed_before = λ rank below. mine.claimed_before rank (omega (arith, place));
    claim_ahead = λ rank is. mine.claim_ahead rank (sym claim ∙ is);
    claim_within = λ rank is. mine.claim_within rank (sym claim ∙ is);
    claim_set = λ rank is. mine.claim_set rank (sym claim ∙ is);
    stays_taken = λ p below found. mine.stays_taken p below (ap (λ l. found_taken l p) (sym looks) ∙ found);
    turn_passed = rw last (omega arith);
    stop_stays = λ stop. sym last;
    holder = holder;
    set_nothing = λ idle. (rests idle).0;
    wrote_nothing = λ idle. (rests idle).1;
  }

  -- a holder that has loaded the turn word still is one
  still_holds : Holder plan words r.state r.bits view → Holder plan words r.state r.bits (with_load view (turn_word words))
  still_holds h = record {
    claims_turn = h.claims_turn;
    not_stopped = h.not_stopped;
    sees = record { marked = h.sees.marked; taken = h.sees.taken; free = h.sees.free };
    counted = h.counted;
    has_pilot = h.has_pilot;
    all_set = h.all_set;
    stored = h.stored;
  }

  -- the turn didn't come
  only_loaded : Moves plan words views r id words r.bits (with_load view (turn_word words))
  only_loaded =
      looks_on (with_load view (turn_word words)) refl (none_holds (with_load view (turn_word words)) refl)
      (knows_loaded (with_load view (turn_word words)) refl refl refl refl refl (λ held. still_holds (mine.holder held))
      (λ idle. (mine.set_nothing idle, mine.wrote_nothing idle)))

  -- where this view claims the turn and doesn't hold it, nobody does, so no bit is set for its rank
  no_bits : view.claim ≡ Some (turn_in words) → view.holds ≡ false → r.bits ≡ 0
  no_bits claims idle = r.unheld (λ i other there.
      false_from_ne_true other.holds (λ held.
      let same : i ≡ id = r.alone i id other view (turn_in words) there here ((r.each i other there).holder held).claims_turn claims in
      let is : other ≡ view = some-injective other view (sym there ∙ ap (get_elem? views) same ∙ here) in
      both_ways view.holds idle (ap (λ (v : View). v.holds) (sym is) ∙ held)))

  -- the turn came: what was ever found taken is taken in the state, since nobody has set a bit beyond it
  turn_came : gets_turn view (turn_word words) ≡ true → Moves plan words views r id words r.bits (with_turn (with_load view (turn_word words)))
  turn_came gets =
      let next : View = with_turn (with_load view (turn_word words)) in
      let first = and_parts (nat_lt (turn_word words) STOP) (is_claim view.claim (turn_in words) && not view.holds) gets in
      let second = and_parts (is_claim view.claim (turn_in words)) (not view.holds) first.1 in
      let running : turn_word words < STOP = ltb-true (turn_word words) STOP first.0 in
      let claims : view.claim ≡ Some (turn_in words) = claims_it view.claim (turn_in words) second.0 in
      let idle : view.holds ≡ false = not-true view.holds second.1 in
      let zero : r.bits ≡ 0 = no_bits claims idle in
      let all : drop (length view.looks) view.looks ≡ [] = drop_all (length view.looks) view.looks (omega arith) in
      looks_on next refl (λ _. zero)
      (knows_loaded next refl refl refl refl refl
      (λ held. record {
        claims_turn = claims;
        not_stopped = running;
        sees = record {
          marked = omega arith;
          taken = λ p below found.
              let inside : p < plan.size = subst (λ (q : SearchPlan). p < q.size) mine.same_plan below in
              sym (taken_is plan words views r p zero inside) ∙ mine.stays_taken p inside found;
          free = λ p below found. absurd (both_ways (found_free (late_looks next) p) (ap (λ l. found_free l p) all) found);
        };
        counted = mine.set_nothing idle ∙ sym zero;
        has_pilot = λ some. absurd (omega (arith, mine.set_nothing idle));
        all_set = λ wrote. absurd (both_ways view.wrote (mine.wrote_nothing idle) wrote);
        stored = λ wrote. absurd (both_ways view.wrote (mine.wrote_nothing idle) wrote);
      })
      (λ off. absurd (both_ways true off refl)))

  -- both together
  load_moves : (gets : Bool) → gets_turn view (turn_word words) ≡ gets →
      Moves plan words views r id words r.bits (cond gets (with_turn (with_load view (turn_word words))) (with_load view (turn_word words)))
  load_moves true gets = turn_came gets
  load_moves false gets = only_loaded

  -- one look more finds taken what earlier looks found, and what it finds itself
  taken_more : (word found p : ℕ) → found_taken (view.looks ++ (record { word = word; value = found }) ∷ []) p ≡ true →
      (found_taken view.looks p ≡ false) → (word ≡ p / 64) × ((bit_at found (p % 64) == 1) ≡ true)
  taken_more word found p is new =
      let mine : Bool = word == p / 64 && bit_at found (p % 64) == 1 in
      let last : (mine || false) ≡ true =
      ap (λ b. b || (mine || false)) (sym new)
      ∙ sym (list_any-append (λ (look : Look). look.word == p / 64 && bit_at look.value (p % 64) == 1) view.looks
      ((record { word = word; value = found }) ∷ []))
      ∙ is in
      let parts = and_parts (word == p / 64) (bit_at found (p % 64) == 1) (sym (or-false mine) ∙ last) in
      (eqb-true word (p / 64) parts.0, parts.1)

  -- the same of free positions, among late looks
  free_more : (looks : List Look) (word found p : ℕ) → found_free (looks ++ (record { word = word; value = found }) ∷ []) p ≡ true →
      (found_free looks p ≡ false) → (word ≡ p / 64) × ((bit_at found (p % 64) == 1) ≡ false)
  free_more looks word found p is new =
      let mine : Bool = word == p / 64 && not (bit_at found (p % 64) == 1) in
      let last : (mine || false) ≡ true =
      ap (λ b. b || (mine || false)) (sym new)
      ∙ sym (list_any-append (λ (look : Look). look.word == p / 64 && not (bit_at look.value (p % 64) == 1)) looks
      ((record { word = word; value = found }) ∷ []))
      ∙ is in
      let parts = and_parts (word == p / 64) (not (bit_at found (p % 64) == 1)) (sym (or-false mine) ∙ last) in
      (eqb-true word (p / 64) parts.0, not-true (bit_at found (p % 64) == 1) parts.1)

  module _ (word : ℕ) where
    abbrev found : ℕ
    found = slice_index words (bits_from plan + word)

    abbrev next : View
    next = after_look view word found

    -- what a look finds taken is taken
    look_taken : (p : ℕ) → p < plan.size → found_taken next.looks p ≡ true → is_taken plan words p ≡ true
    look_taken p below is =
        elim (found_taken view.looks p) as (λ b. found_taken view.looks p ≡ b → is_taken plan words p ≡ true) [
          | true ↦ λ before. mine.stays_taken p below before
          | false ↦ λ new.
              let own = taken_more word found p is new in
              subst (λ w. eqb (bit_at (slice_index words (bits_from plan + w)) (p % 64)) 1 ≡ true) own.0 own.1
        ] refl

    -- the looks of a holder stay true of the state
    look_sees : Holder plan words r.state r.bits view → r.bits ≡ 0 → SeesState next r.state
    look_sees h zero = record {
      marked = omega (arith, h.sees.marked, length-append view.looks ((record { word = word; value = found }) ∷ []));
      taken = λ p below is.
          let inside : p < plan.size = subst (λ (q : SearchPlan). p < q.size) mine.same_plan below in
          sym (taken_is plan words views r p zero inside) ∙ look_taken p inside is;
      free = λ p below is.
          let inside : p < plan.size = subst (λ (q : SearchPlan). p < q.size) mine.same_plan below in
          let late : found_free (late_looks view ++ (record { word = word; value = found }) ∷ []) p ≡ true =
          ap (λ l. found_free l p) (sym (drop-append-le view.mark view.looks ((record { word = word; value = found }) ∷ []) h.sees.marked)) ∙ is in
          elim (found_free (late_looks view) p) as (λ b. found_free (late_looks view) p ≡ b → contains r.state.taken p ≡ false) [
            | true ↦ λ before. h.sees.free p below before
            | false ↦ λ new.
                let own = free_more (late_looks view) word found p late new in
                sym (taken_is plan words views r p zero inside)
                ∙ subst (λ w. eqb (bit_at (slice_index words (bits_from plan + w)) (p % 64)) 1 ≡ false) own.0 own.1
          ] refl;
    }

    -- one look more
    look_moves : view.bits ≡ 0 → Moves plan words views r id words r.bits next
    look_moves zero =
        looks_on next refl (none_holds next refl)
        record {
          same_plan = mine.same_plan;
          place_within = mine.place_within;
          claimed_before = mine.claimed_before;
          claim_ahead = mine.claim_ahead;
          claim_within = mine.claim_within;
          claim_set = mine.claim_set;
          stays_taken = look_taken;
          turn_passed = mine.turn_passed;
          stop_stays = mine.stop_stays;
          holder = λ held.
              let h = mine.holder held in
              record {
                claims_turn = h.claims_turn;
                not_stopped = h.not_stopped;
                sees = look_sees h (sym h.counted ∙ zero);
                counted = h.counted;
                has_pilot = h.has_pilot;
                all_set = h.all_set;
                stored = h.stored;
              };
          set_nothing = mine.set_nothing;
          wrote_nothing = mine.wrote_nothing;
        }

-- kind 3
pub load_allowed : (plan : SearchPlan) (slots id : ℕ) (me : Me (Unit {0}) View) →
    Allows (λ (s : State (Unit {0}) View). Kept plan s.words s.views) slots id me 0 (λ n. n) (LoadTold (step slots 0 0 0 maybe.none) me)
load_allowed plan slots id me s r deep here fits =
    let found : ℕ = turn_word s.words in
    let after : View = after_load me.0 found in
    let kept : Kept plan s.words (slice_set s.views id after) =
    moved plan s.words s.views r id s.words r.bits after (load_moves plan s.words s.views r id me.0 here (gets_turn me.0 found) refl) in
    let mine : Knows plan s.words r.state r.bits me.0 = r.each id me.0 here in (
      after,
      keeps,
      tt,
      subst (λ ws. Kept plan ws (slice_set s.views id after)) (sym (set-get_or s.words 0 0)) kept,
      record {
        view = refl;
        never_back = mine.turn_passed;
        claim_ahead = mine.claim_ahead;
        stop_stays = mine.stop_stays;
        has_turn = has_turn plan s.words (slice_set s.views id after) kept after
            (kept.each id after (set_here s.views id after (stands_within s.views id me.0 here)));
      },
    )

-- kind 4
pub look_allowed : (plan : SearchPlan) (slots id word : ℕ) (me : Me (Unit {0}) View) → me.0.plan ≡ plan → me.0.bits ≡ 0 →
    Allows (λ (s : State (Unit {0}) View). Kept plan s.words s.views) slots id me (bits_from plan + word) (λ n. n)
    (LookTold (step slots (bits_from plan + word) 0 0 maybe.none) me)
look_allowed plan slots id word me same zero s r deep here fits =
    let found : ℕ = slice_index s.words (bits_from plan + word) in
    let after : View = after_look me.0 word found in
    let kept : Kept plan s.words (slice_set s.views id after) =
    moved plan s.words s.views r id s.words r.bits after (look_moves plan s.words s.views r id me.0 here word zero) in
    let from : bits_from plan + word - bits_from me.0.plan ≡ word = ap (λ (q : SearchPlan). bits_from plan + word - bits_from q) same ∙ omega arith in (
      after,
      keeps,
      tt,
      subst (λ ws. Kept plan ws (slice_set s.views id after)) (sym (set-get_or s.words (bits_from plan + word) 0)) kept,
      record {
        view = ap (λ w. (after_look me.0 w found, me.1)) (sym from);
        has_turn = has_turn plan s.words (slice_set s.views id after) kept after
            (kept.each id after (set_here s.views id after (stands_within s.views id me.0 here)));
      },
    )
