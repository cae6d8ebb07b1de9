use Rattle.std.proofs.Common.{[], ◌-◌, ◌<◌}
use Rattle.std.specs.FinSet.{contains}
use Rattle.pthash.specs.Search.{pilot_fits}
use Rattle.pthash.specs.Least.{FailsBelow}
use Rattle.pilot_search.specs.Flags.{FailWhereSet}
use Rattle.pilot_search.specs.Marking.{AreMarks}
use Rattle.pilot_search.proofs.groups.find_in_group.Given as goal

abbrev pub invariant-loop-next : goal.invariant-loop-next
invariant-loop-next l = record {
  bound : l.flags < 256;
  fails : FailsBelow (pilot_fits l.seed l.size (contains l.occupied.taken) l.members) l.next;
  flagged : FailWhereSet (pilot_fits l.seed l.size (contains l.occupied.taken) l.members) l.next l.flags;
  marks : AreMarks l.marks [];
}

abbrev pub decreases-loop-next : goal.decreases-loop-next
decreases-loop-next l = l.end - l.next
