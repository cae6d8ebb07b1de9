use Rattle.std.proofs.Common.{◌≡◌, true, take}
use Rattle.std.specs.List.{list_all}
use Rattle.pilot_search.specs.Table.{positions_under}
use Rattle.turn_search.specs.Looks.{found_free}
use Rattle.turn_search.specs.Passes.{IsPassOf, OnlyLooked, new_looks}
use Rattle.turn_search.proofs.table.TurnTable.are_free.Given as goal

abbrev pub invariant-loop-member : goal.invariant-loop-member
invariant-loop-member l =
    IsPassOf l.self l.pass × OnlyLooked l.initial.pass.view l.pass.view
    × (list_all (found_free (new_looks l.initial.pass.view l.pass.view)) (positions_under l.hash l.size (take l.member-index l.members)) ≡ true)
