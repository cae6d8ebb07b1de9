use Rattle.std.proofs.Common.{◌-◌}
use Rattle.std.specs.FinSet.{contains}
use Rattle.part_function.proofs.FreeWalk.{AreTakenTo}
use Rattle.part_function.proofs.free_positions.next_free.Given as goal

abbrev pub invariant-loop-position : goal.invariant-loop-position
invariant-loop-position l = AreTakenTo (contains l.occupied.taken) l.from l.end l.position

abbrev pub decreases-loop-position : goal.decreases-loop-position
decreases-loop-position l = l.end - l.position
