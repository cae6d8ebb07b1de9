use Rattle.index_file.proofs.Looked.{AreSums}
use Rattle.index_file.proofs.index.add_up.Given as goal

abbrev pub invariant-loop-i : goal.invariant-loop-i
invariant-loop-i l = AreSums l.parts l.i l.sums.size l.sums.buckets l.sums.free
