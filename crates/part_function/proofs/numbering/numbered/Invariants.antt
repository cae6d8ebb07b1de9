use Rattle.std.proofs.Common.{◌≡◌, drop}
use Rattle.pthash.specs.ByBucket.{pilots_by_number}
use Rattle.part_function.proofs.numbering.numbered.Given as goal

abbrev pub invariant-loop-rank : goal.invariant-loop-rank
invariant-loop-rank l = l.by_number.items ≡ pilots_by_number (drop l.rank l.plan.buckets) (drop l.rank l.pilots) l.m
