-- What `claim` and `look` answer, by the view afterwards.
use Rattle.std.specs.Prelude.{ℕ, nat_lt, cond, Option, Some, None}
use Rattle.turn_search.specs.declared.layout.TheConstants.{STOP}
use Rattle.turn_search.specs.declared.board.View.{View}
use Rattle.turn_search.specs.declared.claiming.Claim.{Claim}
use Rattle.turn_search.specs.declared.claiming.Claim.TheVariants.{Mine, Nothing}
use Rattle.turn_search.specs.declared.turns.Turn.{Turn}
use Rattle.turn_search.specs.declared.turns.Turn.TheVariants as turn
use Rattle.turn_search.specs.Words.{turn_of}
use Rattle.turn_search.specs.Steps.{is_claim}

-- the answer of a claim
abbrev pub claim_answer : Option ℕ → Claim
claim_answer (Some rank) = Mine rank
claim_answer None = Nothing

-- the view that has gone on to a place
abbrev pub gone_to : View → ℕ → View
gone_to view place = record view { place = place }

-- the answer of a look: stopped where the stop bit is set, and mine where it is clear and the turn is the claimed rank
abbrev pub look_answer : View → Turn
look_answer view =
    cond (nat_lt view.last STOP)
    (cond (is_claim view.claim (turn_of view.last)) turn.Mine (turn.NotYet (turn_of view.last)))
    (turn.Stopped (turn_of view.last))
