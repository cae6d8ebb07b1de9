use Rattle.std.proofs.Common.{◌≡◌, ◌<◌, ap, ◌∙◌, rules}
use Rattle.turn_search.specs.Words.{turn_of}
use Rattle.turn_search.proofs.Seats.{came_turn, has_turn_of}
use Rattle.turn_search.specs.declared.layout.TheConstants.{STOP}
use Rattle.turn_search.proofs.table.TurnTable.look.Goals as goal

pub returns-then-turn-rank-clause-mine : goal.returns-then-turn-rank-clause-mine
returns-then-turn-rank-clause-mine c = λ _ rank claims.
    let found = c.load_turn-found.result in
    let now = c.load_turn-found.ensures in
    let claimed = c.rank.ensures.rank in
    let before = now.claim ∙ claimed in
    let running : found < STOP = search rules in
    let turn : turn_of found ≡ c.rank.result = search (rules, c.if-turn-rank.true) in
    has_turn_of c.load_turn-found.new.pass.view rank now.has_turn
    (ap (λ v. v.holds) now.view ∙ came_turn c.args.pass.now.view found c.rank.result running before turn) claims
