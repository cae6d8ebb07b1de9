use Rattle.hem_build.proofs.Marking.{IsMarking}
use Rattle.hem_build.proofs.mark.mark_of_records.Given as goal

abbrev pub invariant-loop-record : goal.invariant-loop-record
invariant-loop-record l = IsMarking l.records l.record-index l.sum l.xor
