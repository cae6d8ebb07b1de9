use Rattle.std.proofs.Common.{◌≡◌, ◌-◌, ◌<◌}
use Rattle.pthash.specs.SearchLaws.{fits_at}
use Rattle.pilot_search.specs.Flags.{FailWhereSet}
use Rattle.turn_search.specs.Looks.{found_taken, RejectsBelow}
use Rattle.turn_search.specs.Passes.{IsPassOf, OnlyLooked}
use Rattle.turn_search.proofs.table.TurnTable.find_in_group.Given as goal

abbrev pub invariant-loop-next : goal.invariant-loop-next
invariant-loop-next l = record {
  bound : l.flags < 256;
  pass : IsPassOf l.self l.pass;
  looks : OnlyLooked l.initial.pass.view l.pass.view;
  room : l.scratch.members ≡ l.initial.scratch.members;
  lower : RejectsBelow l.pass.view l.rank l.next;
  fail : FailWhereSet (fits_at l.pass.view.plan (found_taken l.pass.view.looks) l.rank) l.next l.flags;
}

abbrev pub decreases-loop-next : goal.decreases-loop-next
decreases-loop-next l = l.end - l.next
