use Rattle.std.proofs.Common.{◌≤◌}
use Rattle.elias_fano.specs.Values.{below_len}
use Rattle.pilot_codecs.specs.Values.{values_of}
use Rattle.pilot_codecs.proofs.part.below_by_each.Given as goal

abbrev pub invariant-loop-i : goal.invariant-loop-i
invariant-loop-i l = l.i ≤ below_len l.bound (values_of l.part)
