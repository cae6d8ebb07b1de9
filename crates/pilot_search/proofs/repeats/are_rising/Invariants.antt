use Rattle.std.proofs.Common.{◌≡◌, ℕ, ◌-◌, ◌<◌, ◌≤◌, true, take, get_or}
use Rattle.pthash.specs.Search.{is_distinct}
use Rattle.pilot_search.proofs.repeats.are_rising.Given as goal

abbrev pub invariant-loop-i : goal.invariant-loop-i
invariant-loop-i l = record {
  some : 1 ≤ l.i;
  distinct : is_distinct (take l.i l.numbers) ≡ true;
  rising : (k : ℕ) → k < l.i → get_or l.numbers k 0 ≤ get_or l.numbers (l.i - 1) 0;
}
