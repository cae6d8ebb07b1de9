-- Tables, passes and candidates as contracts see them.
use Rattle.std.specs.Prelude.{◌≡◌, ℕ, ◌+◌, ◌/◌, ◌%◌, ◌<◌, ◌≤◌, ◌^◌, ◌==◌, Bool, not, true, false, [], ◌++◌, List, length}
use Rattle.std.specs.Prelude.{drop, Some, Ok}
use Rattle.std.specs.Int.{bit_at}
use Rattle.pthash.specs.Search.{SearchPlan, SearchState, IsSearchable, is_distinct, prefix_of}
use Rattle.pthash.specs.SearchLaws.{positions_at}
use Rattle.pilot_search.specs.Kept.{AreHashes}
use Rattle.atomic_table.specs.Seated.{TableId}
use Rattle.atomic_table.specs.Table.{Me}
use Rattle.turn_search.specs.declared.board.Look.{Look}
use Rattle.turn_search.specs.declared.board.View.{View}
use Rattle.turn_search.specs.Words.{ranks_of, turn_of, HasStop, bits_from, word_count}
use Rattle.turn_search.specs.Looks.{RejectsBelow}
use Rattle.turn_search.specs.Rule.{pilot_at}
use Rattle.turn_search.specs.Steps.{after_look}
use Rattle.turn_search.specs.Told.{HasTurnIfHeld}

-- a table: what is searched, and which table it is
pub record TurnTableData : Type 0 where
  pub plan : SearchPlan
  pub table : TableId

-- a pass: which table it is of, and what it knows
pub record PassData : Type 0 where
  pub table : TableId
  pub view : View

-- a pilot for a rank
pub record CandidateData : Type 0 where
  pub rank : ℕ
  pub pilot : ℕ

-- a pass of this table, in no commit
pub record IsPassOf (table : TurnTableData) (pass : PassData) : Type 0 where
  pub same_table : pass.table ≡ table.table
  pub same_plan : pass.view.plan ≡ table.plan
  pub set_nothing : pass.view.bits ≡ 0
  pub wrote_nothing : pass.view.wrote ≡ false

-- a pass of this table, which may be in a commit
pub record IsPassAt (table : TurnTableData) (pass : PassData) : Type 0 where
  pub same_table : pass.table ≡ table.table
  pub same_plan : pass.view.plan ≡ table.plan

-- one look came to a view, at a position that was free or not
pub record LooksAt (before after : View) (p : ℕ) (free : Bool) : Type 0 where
  pub value : ℕ
  pub view : after ≡ after_look before (p / 64) value
  pub answer : free ≡ not (bit_at value (p % 64) == 1)

-- only looks came to a view
pub record OnlyLooked (before after : View) : Type 0 where
  pub more : List Look
  pub view : after ≡ record before { looks = before.looks ++ more }

-- the looks that came to a view with so many
abbrev pub new_looks : View → View → List Look
new_looks before after = drop (length before.looks) after.looks

-- a candidate is of the rank that a view claims, and the view rejects each lower pilot
pub record IsOfRank (view : View) (candidate : CandidateData) : Type 0 where
  pub rank : view.claim ≡ Some candidate.rank
  pub lower : RejectsBelow view candidate.rank candidate.pilot

-- positions are those of a candidate, and no two of them are equal
pub record IsSpread (plan : SearchPlan) (candidate : CandidateData) (positions : List ℕ) : Type 0 where
  pub below : candidate.pilot < plan.limit
  pub positions_are : positions ≡ positions_at plan candidate.rank candidate.pilot
  pub distinct : is_distinct positions ≡ true

-- a pilot is the one that the search finds for a rank
pub record IsPilotOf (plan : SearchPlan) (rank k : ℕ) : Type 0 where
  pub state : SearchState
  pub reached : prefix_of plan rank ≡ Ok state
  pub pilot : pilot_at plan state rank ≡ Some k

-- a view with so many bits set for its rank
abbrev pub with_bits : View → ℕ → View
with_bits view bits = record view { bits = bits }

-- a pass has seen that the search is stuck at a rank: the stop bit stands, and that was the turn
pub record HasSeenStop (view : View) (rank : ℕ) : Type 0 where
  pub stop : HasStop view.last
  pub turn : turn_of view.last ≡ rank

-- what a table keeps: the plan is the key of its words, there is room for all pilots, where the bits begin, and hashes of pilots
pub record IsLaid (plan key : SearchPlan) (words slots : ℕ) (pilots : List ℕ) (bits size : ℕ) (hashes : List ℕ) : Type 0 where
  pub searchable : IsSearchable plan
  pub ranks : ranks_of plan ≤ 2 ^ 28
  pub same_key : key ≡ plan
  pub words_are : words ≡ word_count plan
  pub no_slots : slots ≡ 0
  pub room : length pilots ≡ ranks_of plan
  pub bits_are : bits ≡ bits_from plan
  pub same_size : size ≡ plan.size
  pub hashes_are : AreHashes plan.seed hashes

-- what a pass keeps: its place is that of its view, it has claimed the rank before its place, and its looks are true where it holds the turn
pub record IsSeated (me : Me (Unit {0}) View) (place : ℕ) : Type 0 where
  pub no_slots : me.1 ≡ []
  pub place_is : me.0.place ≡ place
  pub place_within : place ≤ ranks_of me.0.plan
  pub claim_is : (rank : ℕ) → me.0.claim ≡ Some rank → rank + 1 ≡ place
  pub has_turn : HasTurnIfHeld me.0
