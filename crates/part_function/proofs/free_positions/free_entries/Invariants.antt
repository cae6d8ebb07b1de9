use Rattle.std.proofs.Common.{◌-◌}
use Rattle.std.specs.FinSet.{contains}
use Rattle.part_function.proofs.FreeEntries.{AreEntries}
use Rattle.part_function.proofs.free_positions.free_entries.Given as goal

abbrev pub invariant-loop-position : goal.invariant-loop-position
invariant-loop-position l = AreEntries (contains l.occupied.taken) l.n (l.position - l.n) l.rank l.entries.items
