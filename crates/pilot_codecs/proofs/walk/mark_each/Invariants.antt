use Rattle.std.proofs.Common.{◌+◌, ◌-◌}
use Rattle.pilot_codecs.specs.Parts.{values_in}
use Rattle.pilot_codecs.proofs.WalkLemmas.{AreMarked}
use Rattle.pilot_codecs.proofs.walk.mark_each.Given as goal

abbrev pub invariant-loop-j : goal.invariant-loop-j
invariant-loop-j l = AreMarked l.fn.marks l.marks (values_in l.count l.width l.words) (l.i + l.j)

abbrev pub invariant-loop-i : goal.invariant-loop-i
invariant-loop-i l = AreMarked l.fn.marks l.marks (values_in l.count l.width l.words) l.i

abbrev pub decreases-loop-i : goal.decreases-loop-i
decreases-loop-i l = l.count - l.i
