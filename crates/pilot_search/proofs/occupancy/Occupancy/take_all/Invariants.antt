use Rattle.std.proofs.Common.{◌≡◌, take}
use Rattle.std.specs.FinSet as set
use Rattle.pilot_search.proofs.occupancy.Occupancy.take_all.Given as goal

abbrev pub invariant-loop-position : goal.invariant-loop-position
invariant-loop-position l = record {
  size : l.self.size ≡ l.initial.self.size;
  taken : l.self.taken ≡ set.union l.initial.self.taken (set.from_list (take l.position-index l.positions));
}
