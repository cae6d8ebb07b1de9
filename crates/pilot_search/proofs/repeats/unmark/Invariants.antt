use Rattle.std.proofs.Common.{length, drop}
use Rattle.pilot_search.proofs.MarkLemmas.{IsCleared}
use Rattle.pilot_search.proofs.repeats.unmark.Given as goal

abbrev pub invariant-loop-number : goal.invariant-loop-number
invariant-loop-number l = IsCleared (length l.initial.marks) (drop l.number-index l.numbers) l.marks
