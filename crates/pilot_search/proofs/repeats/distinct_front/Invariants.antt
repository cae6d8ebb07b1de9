use Rattle.std.proofs.Common.{◌≡◌, true, take}
use Rattle.pthash.specs.Search.{is_distinct}
use Rattle.pilot_search.specs.Marking.{AreMarks}
use Rattle.pilot_search.proofs.repeats.distinct_front.Given as goal

abbrev pub invariant-loop-i : goal.invariant-loop-i
invariant-loop-i l = record {
  distinct : is_distinct (take l.i l.numbers) ≡ true;
  marks : AreMarks l.marks (take l.i l.numbers);
}
