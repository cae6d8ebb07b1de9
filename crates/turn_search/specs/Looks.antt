-- What a pass has found by its looks, and what it concludes about a pilot.
use Rattle.std.specs.Prelude.{◌≡◌, ℕ, ◌<◌, ◌≤◌, ◌/◌, ◌%◌, Bool, true, false, not, ◌&&◌, ◌==◌, List, length, drop, slice_index, bit_xor, Some, Ok}
use Rattle.std.specs.List.{list_any, list_all}
use Rattle.std.specs.Int.{bit_at}
use Rattle.std.specs.FinSet.{contains}
use Rattle.pthash.specs.Search.{SearchPlan, SearchState, is_distinct, prefix_of}
use Rattle.pthash.specs.SearchLaws.{positions_at, fits_at}
use Rattle.pthash.specs.Least.{FailsBelow}
use Rattle.turn_search.specs.declared.board.Look.{Look}
use Rattle.turn_search.specs.declared.board.View.{View}

-- whether some look found a position taken
abbrev pub found_taken : List Look → ℕ → Bool
found_taken looks p = list_any (λ look. look.word == p / 64 && bit_at look.value (p % 64) == 1) looks

-- whether some look found a position free
abbrev pub found_free : List Look → ℕ → Bool
found_free looks p = list_any (λ look. look.word == p / 64 && not (bit_at look.value (p % 64) == 1)) looks

-- whether no look found the position taken that a member gets under the hash at a place
abbrev pub is_open_under : List Look → List ℕ → ℕ → ℕ → ℕ → Bool
is_open_under looks hashes member size place = not (found_taken looks (bit_xor member (slice_index hashes place) % size))

-- of each pilot below k, two keys of the bucket at this rank share a position, or a look found one taken
abbrev pub RejectsBelow : View → ℕ → ℕ → Type 0
RejectsBelow view rank k = FailsBelow (fits_at view.plan (found_taken view.looks) rank) k

-- a pilot is a candidate for a rank, by what these looks found: it has distinct positions, all found free
pub record IsCandidateBy (plan : SearchPlan) (looks : List Look) (rank k : ℕ) : Type 0 where
  pub below : k < plan.limit
  pub distinct : is_distinct (positions_at plan rank k) ≡ true
  pub free : list_all (found_free looks) (positions_at plan rank k) ≡ true

-- the looks of a pass since it got the turn
abbrev pub late_looks : View → List Look
late_looks view = drop view.mark view.looks

-- a view shows that a pilot is the one of its rank: it holds the turn, rejects each lower pilot, and has found the positions free since
pub record Shows (view : View) (rank k : ℕ) : Type 0 where
  pub claims : view.claim ≡ Some rank
  pub holds : view.holds ≡ true
  pub lower : RejectsBelow view rank k
  pub candidate : IsCandidateBy view.plan (late_looks view) rank k

-- the looks of a view that holds the turn are true of the search's state at its rank
pub record SeesState (view : View) (state : SearchState) : Type 0 where
  pub marked : view.mark ≤ length view.looks
  pub taken : (p : ℕ) → p < view.plan.size → found_taken view.looks p ≡ true → contains state.taken p ≡ true
  pub free : (p : ℕ) → p < view.plan.size → found_free (late_looks view) p ≡ true → contains state.taken p ≡ false

-- a view that holds the turn claims a rank that the search reaches, and its looks are true of the state there
pub record HasTurn (view : View) (rank : ℕ) : Type 0 where
  pub claims : view.claim ≡ Some rank
  pub state : SearchState
  pub reached : prefix_of view.plan rank ≡ Ok state
  pub sees : SeesState view state
