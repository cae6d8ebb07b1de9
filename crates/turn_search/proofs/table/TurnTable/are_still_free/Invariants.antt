use Rattle.std.proofs.Common.{◌≡◌, true, take}
use Rattle.std.specs.List.{list_all}
use Rattle.turn_search.specs.Looks.{found_free}
use Rattle.turn_search.specs.Passes.{IsPassOf, OnlyLooked, new_looks}
use Rattle.turn_search.proofs.table.TurnTable.are_still_free.Given as goal

abbrev pub invariant-loop-position : goal.invariant-loop-position
invariant-loop-position l =
    IsPassOf l.self l.pass × OnlyLooked l.initial.pass.view l.pass.view
    × (list_all (found_free (new_looks l.initial.pass.view l.pass.view)) (take l.position-index l.positions) ≡ true)
