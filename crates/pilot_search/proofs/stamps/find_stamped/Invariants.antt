use Rattle.std.specs.FinSet.{contains}
use Rattle.pthash.specs.Search.{pilot_fits}
use Rattle.pthash.specs.Least.{FailsBelow}
use Rattle.pilot_search.specs.Stamping.{AreUpTo}
use Rattle.pilot_search.proofs.stamps.find_stamped.Given as goal

abbrev pub invariant-loop-pilot : goal.invariant-loop-pilot
invariant-loop-pilot l = record {
  fails : FailsBelow (pilot_fits l.seed l.size (contains l.occupied.taken) l.members) l.pilot;
  last : AreUpTo l.stamp l.stamps;
}
