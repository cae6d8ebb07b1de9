-- What a table has come to when it is closed.
use Rattle.std.specs.Prelude.{◌≡◌, ℕ, ◌+◌, ◌≤◌, nat_lt, cond, List, length, Option, Some, None, Err}
use mathlib.Core.Option.{some}
use lib.ListN.{get_elem?}
use Rattle.pthash.specs.Search.{search_of}
use Rattle.pilot_search.specs.Outcome.{AreFirstPilots}
use Rattle.turn_search.specs.declared.layout.TheConstants.{STOP}
use Rattle.turn_search.specs.declared.board.View.{View}
use Rattle.turn_search.specs.declared.closing.Ended.{Ended}
use Rattle.turn_search.specs.Words.{ranks_of, turn_of, HasStop, turn_word, turn_in}
use Rattle.turn_search.specs.Rule.{Kept}
use Rattle.turn_search.specs.Passes.{TurnTableData}

-- the rank at which a value of the turn word says that the search is stuck
abbrev pub stuck_in : ℕ → Option ℕ
stuck_in value = cond (nat_lt value STOP) None (Some (turn_of value))

-- a table was closed in one state of its words that keeps the rule, with this view among the views: what it came to is said of that state
pub record IsEndOf (table : TurnTableData) (view : View) (ended : Ended) : Type 0 where
  pub words : List ℕ
  pub views : List View
  pub seat : ℕ
  pub kept : Kept table.plan words views
  pub seated : get_elem? views seat ≡ some view
  pub count : length ended.pilots.items ≡ turn_in words
  pub pilots : AreFirstPilots table.plan ended.pilots.items
  pub rest : turn_in words + ended.rest ≡ ranks_of table.plan
  pub stuck : ended.stuck ≡ stuck_in (turn_word words)
  pub is_stuck : HasStop (turn_word words) → search_of table.plan ≡ Err (turn_in words)
  pub never_back : turn_of view.last ≤ turn_in words
  pub stop_stays : HasStop view.last → turn_word words ≡ view.last
