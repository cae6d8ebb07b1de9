use Rattle.std.proofs.Common.{◌≡◌}
use Rattle.turn_search.specs.Looks.{RejectsBelow}
use Rattle.turn_search.specs.Passes.{IsPassOf, OnlyLooked}
use Rattle.turn_search.proofs.table.TurnTable.find_between.Given as goal

abbrev pub invariant-loop-pilot : goal.invariant-loop-pilot
invariant-loop-pilot l =
    IsPassOf l.self l.pass × OnlyLooked l.initial.pass.view l.pass.view ×
    (l.scratch.members ≡ l.initial.scratch.members) × RejectsBelow l.pass.view l.rank l.pilot
