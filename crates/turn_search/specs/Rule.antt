-- The rule of a table: what is true between any two steps, of the words and of what each pass knows.
use Rattle.std.specs.Prelude.{◌≡◌, ◌≢◌, ℕ, ◌<◌, ◌≤◌, true, false, ◌||◌, List, [], length, take, slice_index, Option, Some, None, Ok}
use Rattle.std.specs.FinSet.{contains}
use Rattle.pthash.specs.Order.{bucket_at}
use Rattle.pthash.specs.Search.{SearchPlan, SearchState, is_among, least_below, prefix_of}
use Rattle.pthash.specs.SearchLaws.{positions_at, fits_at}
use mathlib.Core.Option.{some}
use lib.ListN.{get_elem?}
use Rattle.turn_search.specs.declared.layout.TheConstants.{STOP}
use Rattle.turn_search.specs.declared.board.View.{View}
use Rattle.turn_search.specs.Words.{ranks_of, turn_of, HasStop, turn_word, turn_in, is_claimed, is_taken, pilot_in, word_count}
use Rattle.turn_search.specs.Looks.{found_taken, SeesState}

-- the pilot of the bucket at a rank, in a state of the search
abbrev pub pilot_at : SearchPlan → SearchState → ℕ → Option ℕ
pilot_at plan state rank = least_below (fits_at plan (contains state.taken) rank) plan.limit

-- the first positions of the bucket at a rank, under its pilot
abbrev pub front_of : SearchPlan → ℕ → Option ℕ → ℕ → List ℕ
front_of plan rank None count = []
front_of plan rank (Some k) count = take count (positions_at plan rank k)

-- how many keys the bucket at a rank has
abbrev pub keys_at : SearchPlan → ℕ → ℕ
keys_at plan rank = length (bucket_at plan.buckets rank).members

-- what is true of a view that holds the turn, where the search stands in this state and so many bits are set for its rank
pub record Holder (plan : SearchPlan) (words : List ℕ) (state : SearchState) (bits : ℕ) (view : View) : Type 0 where
  pub claims_turn : view.claim ≡ Some (turn_in words)
  pub not_stopped : turn_word words < STOP
  pub sees : SeesState view state
  pub counted : view.bits ≡ bits
  pub has_pilot : 0 < view.bits → pilot_at plan state (turn_in words) ≢ None
  pub all_set : view.wrote ≡ true → view.bits ≡ keys_at plan (turn_in words)
  pub stored : view.wrote ≡ true → pilot_at plan state (turn_in words) ≡ Some (pilot_in plan words (turn_in words))

-- what is true of each view
pub record Knows (plan : SearchPlan) (words : List ℕ) (state : SearchState) (bits : ℕ) (view : View) : Type 0 where
  pub same_plan : view.plan ≡ plan
  pub place_within : view.place ≤ ranks_of plan
  pub claimed_before : (rank : ℕ) → rank < view.place → is_claimed words rank ≡ true
  pub claim_ahead : (rank : ℕ) → view.claim ≡ Some rank → turn_in words ≤ rank
  pub claim_within : (rank : ℕ) → view.claim ≡ Some rank → rank < ranks_of plan
  pub claim_set : (rank : ℕ) → view.claim ≡ Some rank → is_claimed words rank ≡ true
  pub stays_taken : (p : ℕ) → p < plan.size → found_taken view.looks p ≡ true → is_taken plan words p ≡ true
  pub turn_passed : turn_of view.last ≤ turn_in words
  pub stop_stays : HasStop view.last → turn_word words ≡ view.last
  pub holder : view.holds ≡ true → Holder plan words state bits view
  pub set_nothing : view.holds ≡ false → view.bits ≡ 0
  pub wrote_nothing : view.holds ≡ false → view.wrote ≡ false

-- the rule
pub record Kept (plan : SearchPlan) (words : List ℕ) (views : List View) : Type 0 where
  pub count : length words ≡ word_count plan
  pub state : SearchState
  pub bits : ℕ
  pub turn_within : turn_in words ≤ ranks_of plan
  pub reached : prefix_of plan (turn_in words) ≡ Ok state
  pub passed : (rank : ℕ) → rank < turn_in words → is_claimed words rank ≡ true
  pub pilots : (rank : ℕ) → rank < turn_in words → pilot_in plan words rank ≡ slice_index state.pilots rank
  pub taken : (p : ℕ) → p < plan.size → is_taken plan words p
      ≡ (contains state.taken p || is_among (front_of plan (turn_in words) (pilot_at plan state (turn_in words)) bits) p)
  pub stop_below : HasStop (turn_word words) → turn_in words < ranks_of plan
  pub stop_stuck : HasStop (turn_word words) → pilot_at plan state (turn_in words) ≡ None
  pub unheld : ((i : ℕ) (view : View) → get_elem? views i ≡ some view → view.holds ≡ false) → bits ≡ 0
  pub each : (i : ℕ) (view : View) → get_elem? views i ≡ some view → Knows plan words state bits view
  pub alone : (i j : ℕ) (one two : View) (rank : ℕ) → get_elem? views i ≡ some one → get_elem? views j ≡ some two →
      one.claim ≡ Some rank → two.claim ≡ Some rank → i ≡ j
