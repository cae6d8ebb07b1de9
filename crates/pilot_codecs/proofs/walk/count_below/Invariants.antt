use Rattle.std.proofs.Common.{◌+◌, ◌-◌, ◌≤◌}
use Rattle.elias_fano.specs.Values.{below_len}
use Rattle.pilot_codecs.specs.Parts.{values_in}
use Rattle.pilot_codecs.proofs.walk.count_below.Given as goal

abbrev pub invariant-loop-j : goal.invariant-loop-j
invariant-loop-j l = l.i + l.j ≤ below_len l.bound (values_in l.count l.width l.words)

abbrev pub invariant-loop-i : goal.invariant-loop-i
invariant-loop-i l = l.i ≤ below_len l.bound (values_in l.count l.width l.words)

abbrev pub decreases-loop-i : goal.decreases-loop-i
decreases-loop-i l = l.count - l.i
