use Rattle.hem_build.proofs.Starting.{AreStarting}
use Rattle.hem_build.proofs.built.starts_of.Given as goal

abbrev pub invariant-loop-i : goal.invariant-loop-i
invariant-loop-i l = AreStarting l.parts l.i l.total l.starts.items
