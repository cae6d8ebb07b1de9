use Rattle.std.proofs.Common.{◌≡◌, true, take}
use Rattle.std.specs.FinSet.{contains}
use Rattle.pthash.specs.Search.{fits}
use Rattle.pilot_search.specs.Marking.{AreMarks}
use Rattle.pilot_search.specs.Table.{positions_under}
use Rattle.pilot_search.proofs.fit.fitting_front.Given as goal

abbrev pub invariant-loop-i : goal.invariant-loop-i
invariant-loop-i l = record {
  fit : fits (contains l.occupied.taken) (take l.i (positions_under l.hash l.occupied.size l.members)) ≡ true;
  places : take l.i l.positions ≡ take l.i (positions_under l.hash l.occupied.size l.members);
  marks : AreMarks l.marks (take l.i l.positions);
}
