-- A step that leaves the turn word and the state of the search keeps the rule.
use Rattle.std.proofs.Common.{◌≡◌, ◌≢◌, ℕ, ◌%◌, ◌<◌, true, false, ◌||◌, List, [], ◌∷◌, sym, ap, ◌∙◌, subst, ⊎_elim}
use Rattle.std.proofs.Common.{arith}
use Rattle.std.specs.Prelude.{zero, suc, length, slice_set, Option, Some, None}
use Rattle.std.specs.FinSet.{contains}
use Rattle.std.proofs.lemmas.Bool.{false_from_ne_true, cases_eq}
use mathlib.Core.Option.{some, some-injective, some-ne-none}
use lib.ListN.{get_elem?}
use Rattle.atomic_table.proofs.Lists.{at_set, set_else}
use Rattle.pthash.specs.Search.{SearchPlan, SearchState, is_among}
use Rattle.turn_search.specs.declared.layout.TheConstants.{STOP}
use Rattle.turn_search.specs.declared.board.View.{View}
use Rattle.turn_search.specs.Words.{turn_in, is_taken, pilot_in}
use Rattle.turn_search.specs.Rule.{pilot_at, front_of, Holder, Knows, Kept}
use Rattle.turn_search.proofs.WordLemmas.{Grows}

-- the view of a pass
abbrev pub Stands : List View → ℕ → View → Type 0
Stands views i view = get_elem? views i ≡ some view

-- it stands among the views
pub stands_within : (views : List View) (i : ℕ) (view : View) → Stands views i view → i < length views
stands_within [] i view here = absurd (some-ne-none view (sym here))
stands_within (v ∷ vs) zero view here = omega arith
stands_within (v ∷ vs) (suc i) view here = omega (arith, stands_within vs i view here)

-- a value that is something is not nothing
pub not_none : {A : Type 0} (claim : Option A) (a : A) → claim ≡ None → claim ≡ Some a → ⊥
not_none claim a none is = absurd cc

-- one claim, one rank
pub same_rank : (claim : Option ℕ) (one two : ℕ) → claim ≡ Some one → claim ≡ Some two → one ≡ two
same_rank claim one two a b = cc

-- whoever claims the turn is the only one that may hold it
pub others_idle : (plan : SearchPlan) (words : List ℕ) (views : List View) (r : Kept plan words views) (i : ℕ) (view : View) → Stands views i view →
    view.claim ≡ Some (turn_in words) → (j : ℕ) (other : View) → j ≢ i → Stands views j other → other.holds ≡ false
others_idle plan words views r i view here claims j other apart there =
    false_from_ne_true other.holds (λ held.
    apart (r.alone j i other view (turn_in words) there here ((r.each j other there).holder held).claims_turn claims))

-- a view without a claim doesn't hold
pub unclaimed_idle : (plan : SearchPlan) (words : List ℕ) (state : SearchState) (bits : ℕ) (view : View) → Knows plan words state bits view →
    view.claim ≡ None → view.holds ≡ false
unclaimed_idle plan words state bits view k none =
    false_from_ne_true view.holds (λ held. not_none view.claim (turn_in words) none (k.holder held).claims_turn)

-- what is true of a holder stays so while its pilot word and the turn word stay
pub holder_stays : (plan : SearchPlan) (words later : List ℕ) (state : SearchState) (bits : ℕ) (view : View) → Grows plan words later →
    pilot_in plan later (turn_in words) ≡ pilot_in plan words (turn_in words) → Holder plan words state bits view → Holder plan later state bits view
holder_stays plan words later state bits view grows pilot h = record {
  claims_turn = rw grows.turn h.claims_turn;
  not_stopped = rw grows.turn h.not_stopped;
  sees = h.sees;
  counted = h.counted;
  has_pilot = rw grows.turn h.has_pilot;
  all_set = rw grows.turn h.all_set;
  stored = rw (grows.turn, pilot) h.stored;
}

-- what a view knows stays so
pub knows_stays : (plan : SearchPlan) (words later : List ℕ) (state : SearchState) (bits more : ℕ) (view : View) → Grows plan words later →
    Knows plan words state bits view → (view.holds ≡ true → Holder plan later state more view) → Knows plan later state more view
knows_stays plan words later state bits more view grows k holder = record {
  same_plan = k.same_plan;
  place_within = k.place_within;
  claimed_before = λ rank below. grows.claims rank (omega (arith, k.place_within)) (k.claimed_before rank below);
  claim_ahead = λ rank claims. rw grows.turn (k.claim_ahead rank claims);
  claim_within = k.claim_within;
  claim_set = λ rank claims. grows.claims rank (k.claim_within rank claims) (k.claim_set rank claims);
  stays_taken = λ p below found. grows.taken p below (k.stays_taken p below found);
  turn_passed = rw grows.turn k.turn_passed;
  stop_stays = λ stop. grows.turn ∙ k.stop_stays stop;
  holder = holder;
  set_nothing = k.set_nothing;
  wrote_nothing = k.wrote_nothing;
}

-- a step of the view at `id`, which becomes `view`, that leaves the turn word; so many bits are set for the turn's rank afterwards
pub record Moves (plan : SearchPlan) (words : List ℕ) (views : List View) (r : Kept plan words views) (id : ℕ) (later : List ℕ) (bits : ℕ)
    (view : View) : Type 0 where
  pub grows : Grows plan words later
  pub pilots : (rank : ℕ) → rank < turn_in words → pilot_in plan later rank ≡ pilot_in plan words rank
  pub taken : (p : ℕ) → p < plan.size → is_taken plan later p
      ≡ (contains r.state.taken p || is_among (front_of plan (turn_in words) (pilot_at plan r.state (turn_in words)) bits) p)
  pub unheld : ((i : ℕ) (other : View) → Stands (slice_set views id view) i other → other.holds ≡ false) → bits ≡ 0
  pub mine : Knows plan later r.state bits view
  pub others : (j : ℕ) (other : View) → j ≢ id → Stands views j other → other.holds ≡ true → Holder plan later r.state bits other
  pub claims : (j : ℕ) (other : View) (rank : ℕ) → j ≢ id → Stands views j other → other.claim ≡ Some rank → view.claim ≡ Some rank → ⊥

module _ (plan : SearchPlan) (views : List View) (id : ℕ) (view : View) where
  -- what is true of the moved view and of the others is true of all
  pub each_of : (P : View → Type 0) → P view → ((j : ℕ) (other : View) → j ≢ id → Stands views j other → P other) →
      (j : ℕ) (other : View) → Stands (slice_set views id view) j other → P other
  each_of P mine others j other there =
      ⊎_elim (λ (t : (j ≡ id) × (view ≡ other)). subst P t.1 mine) (λ (t : (j ≢ id) × (Stands views j other)). others j other t.0 t.1)
      (at_set views id j view other there)

  -- no two claim one rank afterwards
  pub alone_of : ((i j : ℕ) (one two : View) (rank : ℕ) → Stands views i one → Stands views j two →
      one.claim ≡ Some rank → two.claim ≡ Some rank → i ≡ j) →
      ((j : ℕ) (other : View) (rank : ℕ) → j ≢ id → Stands views j other → other.claim ≡ Some rank → view.claim ≡ Some rank → ⊥) →
      (i j : ℕ) (one two : View) (rank : ℕ) → Stands (slice_set views id view) i one → Stands (slice_set views id view) j two →
      one.claim ≡ Some rank → two.claim ≡ Some rank → i ≡ j
  alone_of before new i j one two rank first second a b =
      ⊎_elim
      (λ (s : (i ≡ id) × (view ≡ one)).
      ⊎_elim
      (λ (t : (j ≡ id) × (view ≡ two)). s.0 ∙ sym t.0)
      (λ (t : (j ≢ id) × (Stands views j two)). absurd (new j two rank t.0 t.1 b (ap (λ (v : View). v.claim) s.1 ∙ a)))
      (at_set views id j view two second))
      (λ (s : (i ≢ id) × (Stands views i one)).
      ⊎_elim
      (λ (t : (j ≡ id) × (view ≡ two)). absurd (new i one rank s.0 s.1 a (ap (λ (v : View). v.claim) t.1 ∙ b)))
      (λ (t : (j ≢ id) × (Stands views j two)). before i j one two rank s.1 t.1 a b)
      (at_set views id j view two second))
      (at_set views id i view one first)

-- where the moved view didn't hold before, nobody held before if nobody holds afterwards
pub none_held : (views : List View) (id : ℕ) (before view : View) → Stands views id before → before.holds ≡ false →
    ((i : ℕ) (other : View) → Stands (slice_set views id view) i other → other.holds ≡ false) →
    (i : ℕ) (other : View) → Stands views i other → other.holds ≡ false
none_held views id before view here idle all i other there =
    ⊎_elim
    (λ (same : i ≡ id).
    let is : before ≡ other = some-injective before other (sym here ∙ ap (get_elem? views) (sym same) ∙ there) in
    ap (λ (v : View). v.holds) (sym is) ∙ idle)
    (λ (apart : i ≡ id → ⊥). all i other (set_else views id i view apart ∙ there))
    (cases_eq i id)

-- the rule is kept
pub moved : (plan : SearchPlan) (words : List ℕ) (views : List View) (r : Kept plan words views) (id : ℕ) (later : List ℕ) (bits : ℕ) (view : View) →
    Moves plan words views r id later bits view → Kept plan later (slice_set views id view)
moved plan words views r id later bits view m =
    let turn = m.grows.turn in
    record {
      count = m.grows.count ∙ r.count;
      state = r.state;
      bits = bits;
      turn_within = rw turn r.turn_within;
      reached = rw turn r.reached;
      passed = λ rank below.
          let lower : rank < turn_in words = subst (λ w. rank < w % STOP) turn below in
          m.grows.claims rank (omega (arith, r.turn_within)) (r.passed rank lower);
      pilots = λ rank below.
          let lower : rank < turn_in words = subst (λ w. rank < w % STOP) turn below in
          m.pilots rank lower ∙ r.pilots rank lower;
      taken = rw turn m.taken;
      stop_below = rw turn r.stop_below;
      stop_stuck = rw turn r.stop_stuck;
      unheld = m.unheld;
      each = λ j other there. each_of plan views id view (Knows plan later r.state bits) m.mine
          (λ i one apart at. knows_stays plan words later r.state r.bits bits one m.grows (r.each i one at) (m.others i one apart at)) j other there;
      alone = alone_of plan views id view r.alone m.claims;
    }
