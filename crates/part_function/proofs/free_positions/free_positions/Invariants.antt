use Rattle.std.proofs.Common.{◌-◌}
use Rattle.std.specs.FinSet.{contains}
use Rattle.part_function.proofs.FreeWalk.{AreFreeBelow}
use Rattle.part_function.proofs.free_positions.free_positions.Given as goal

abbrev pub invariant-loop-position : goal.invariant-loop-position
invariant-loop-position l = AreFreeBelow (contains l.occupied.taken) l.n l.position l.free.items

abbrev pub decreases-loop-position : goal.decreases-loop-position
decreases-loop-position l = l.n - l.position
