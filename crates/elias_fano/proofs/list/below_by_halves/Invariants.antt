use Rattle.std.proofs.Common.{◌-◌, ◌≤◌, length}
use Rattle.elias_fano.specs.Values.{below_len}
use Rattle.elias_fano.proofs.list.below_by_halves.Given as goal

abbrev pub invariant-loop-first : goal.invariant-loop-first
invariant-loop-first l = record {
  low : l.first ≤ below_len l.bound l.list;
  high : below_len l.bound l.list ≤ l.end;
  within : l.end ≤ length l.list;
}

abbrev pub decreases-loop-first : goal.decreases-loop-first
decreases-loop-first l = l.end - l.first
