use Rattle.index_file.proofs.Totals.{IsTotal}
use Rattle.index_file.proofs.counts.sum_of.Given as goal

abbrev pub invariant-loop-i : goal.invariant-loop-i
invariant-loop-i l = IsTotal l.counts l.i l.total
