use Rattle.std.proofs.Common.{◌≡◌, true, take}
use Rattle.pthash.specs.Search.{is_distinct}
use Rattle.pilot_search.proofs.repeats.are_apart.Given as goal

abbrev pub invariant-loop-i : goal.invariant-loop-i
invariant-loop-i l = is_distinct (take l.i l.numbers) ≡ true
