use Rattle.index_file.proofs.Totals.{AreStarts}
use Rattle.index_file.proofs.counts.starts_of.Given as goal

abbrev pub invariant-loop-i : goal.invariant-loop-i
invariant-loop-i l = AreStarts l.counts l.i l.total l.starts.items
