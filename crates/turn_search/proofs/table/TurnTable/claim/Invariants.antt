use Rattle.std.proofs.Common.{◌≡◌}
use Rattle.turn_search.specs.Claims.{gone_to}
use Rattle.turn_search.specs.Passes.{IsPassOf}
use Rattle.turn_search.proofs.table.TurnTable.claim.Given as goal

abbrev pub invariant-loop-rank : goal.invariant-loop-rank
invariant-loop-rank l = IsPassOf l.self l.pass × (l.pass.view ≡ gone_to l.initial.pass.view l.rank)
