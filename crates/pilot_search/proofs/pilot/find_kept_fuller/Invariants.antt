use Rattle.std.proofs.Common.{[], ◌-◌}
use Rattle.std.specs.FinSet.{contains}
use Rattle.pthash.specs.Search.{pilot_fits}
use Rattle.pthash.specs.Least.{FailsBelow}
use Rattle.pilot_search.specs.Marking.{AreMarks}
use Rattle.pilot_search.proofs.pilot.find_kept_fuller.Given as goal

abbrev pub invariant-loop-positions : goal.invariant-loop-positions
invariant-loop-positions l = record {
  fails : FailsBelow (pilot_fits l.seed l.size (contains l.occupied.taken) l.members) l.next;
  marks : AreMarks l.marks [];
}

abbrev pub decreases-loop-positions : goal.decreases-loop-positions
decreases-loop-positions l = l.end - l.next
