use Rattle.std.proofs.Common.{◌≡◌, true, take}
use Rattle.std.specs.Prelude.{not}
use Rattle.std.specs.List.{list_all}
use Rattle.std.specs.FinSet.{contains}
use Rattle.pilot_search.specs.Table.{positions_under}
use Rattle.pilot_search.proofs.fit.are_free.Given as goal

abbrev pub invariant-loop-i : goal.invariant-loop-i
invariant-loop-i l = record {
  free : list_all (λ p. not (contains l.occupied.taken p)) (take l.i (positions_under l.hash l.occupied.size l.members)) ≡ true;
  places : take l.i l.positions ≡ take l.i (positions_under l.hash l.occupied.size l.members);
}
