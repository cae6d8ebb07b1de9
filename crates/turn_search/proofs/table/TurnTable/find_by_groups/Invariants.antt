use Rattle.std.proofs.Common.{◌≡◌, ◌-◌}
use Rattle.turn_search.specs.Looks.{RejectsBelow}
use Rattle.turn_search.specs.Passes.{IsPassOf, OnlyLooked}
use Rattle.turn_search.proofs.table.TurnTable.find_by_groups.Given as goal

abbrev pub invariant-loop-members : goal.invariant-loop-members
invariant-loop-members l = record {
  pass : IsPassOf l.self l.pass;
  looks : OnlyLooked l.initial.pass.view l.pass.view;
  room : l.scratch.members ≡ l.initial.scratch.members;
  lower : RejectsBelow l.pass.view l.rank l.next;
}

abbrev pub decreases-loop-members : goal.decreases-loop-members
decreases-loop-members l = l.end - l.next
