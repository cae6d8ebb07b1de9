use Rattle.std.proofs.Common.{◌≡◌, true, take}
use Rattle.std.specs.FinSet.{contains}
use Rattle.pthash.specs.Search.{fits}
use Rattle.pilot_search.specs.Stamping.{AreStamped}
use Rattle.pilot_search.specs.Table.{positions_under}
use Rattle.pilot_search.proofs.stamps.is_fit_stamped.Given as goal

abbrev pub invariant-loop-member : goal.invariant-loop-member
invariant-loop-member l = record {
  fit : fits (contains l.occupied.taken) (take l.member-index (positions_under l.hash l.occupied.size l.members)) ≡ true;
  stamped : AreStamped l.stamps l.stamp (take l.member-index (positions_under l.hash l.occupied.size l.members));
}
