-- The eight kinds of step: when a view may take one, and the view afterwards.
use Rattle.std.specs.Prelude.{ℕ, ◌+◌, ◌%◌, Bool, true, false, not, ◌&&◌, ◌==◌, cond, nat_lt, [], ◌∷◌, ◌++◌, length}
use Rattle.std.specs.Prelude.{Option, Some, None}
use Rattle.std.specs.Int.{bit_at}
use Rattle.pthash.specs.Search.{SearchPlan}
use Rattle.turn_search.specs.declared.layout.TheConstants.{STOP}
use Rattle.turn_search.specs.declared.board.View.{View}
use Rattle.turn_search.specs.Words.{turn_of}

-- a view that knows the plan and a value of the turn word, and nothing else
abbrev pub new_view : SearchPlan → ℕ → View
new_view plan last = record {
  plan = plan;
  place = 0;
  claim = None;
  holds = false;
  looks = [];
  mark = 0;
  bits = 0;
  wrote = false;
  last = last;
  loads = 0;
}

-- after the bit at its place was found set
abbrev pub past_place : View → View
past_place view = record view { place = view.place + 1 }

-- after the bit at its place was found clear, and set
abbrev pub with_claim : View → View
with_claim view = record view { place = view.place + 1; claim = Some view.place; looks = [] }

-- kind 2, claim: after a fetch_or at the bit of its place, which found this value
abbrev pub after_claim : View → ℕ → View
after_claim view found = cond (bit_at found (view.place % 64) == 1) (past_place view) (with_claim view)

-- whether a view claims this rank
abbrev pub is_claim : Option ℕ → ℕ → Bool
is_claim None rank = false
is_claim (Some claimed) rank = claimed == rank

-- whether a value of the turn word gives a view the turn, which it didn't hold
abbrev pub gets_turn : View → ℕ → Bool
gets_turn view found = nat_lt found STOP && (is_claim view.claim (turn_of found) && not view.holds)

-- a view that has loaded the turn word
abbrev pub with_load : View → ℕ → View
with_load view found = record view { last = found; loads = view.loads + 1 }

-- a view that gets the turn
abbrev pub with_turn : View → View
with_turn view = record view { holds = true; mark = length view.looks }

-- kind 3, load of the turn word
abbrev pub after_load : View → ℕ → View
after_load view found = cond (gets_turn view found) (with_turn (with_load view found)) (with_load view found)

-- kind 4, load of a word of the positions' bits
abbrev pub after_look : View → ℕ → ℕ → View
after_look view word found = record view { looks = view.looks ++ (record { word = word; value = found }) ∷ [] }

-- kind 5, one bit more is set
abbrev pub after_bit : View → View
after_bit view = record view { bits = view.bits + 1 }

-- kind 6, the pilot is stored
abbrev pub after_store : View → View
after_store view = record view { wrote = true }

-- kind 7, the turn is passed on
abbrev pub after_pass : View → ℕ → View
after_pass view found = record view { claim = None; holds = false; looks = []; bits = 0; wrote = false; last = found + 1 }

-- kind 8, the search is stopped
abbrev pub after_stop : View → ℕ → View
after_stop view found = record view { holds = false; last = found + STOP }
