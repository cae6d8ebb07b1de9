use Rattle.std.proofs.Common.{◌≤◌, max, length}
use Rattle.bucket_map.proofs.Neighbours.{IsLeastOf}
use Rattle.bucket_map.proofs.clash.least_repeat.Given as goal

abbrev pub invariant-loop-k : goal.invariant-loop-k
invariant-loop-k l =
    record {
      near : l.k ≤ max 1 (length l.records);
      least : IsLeastOf l.records l.k l.least;
    }
