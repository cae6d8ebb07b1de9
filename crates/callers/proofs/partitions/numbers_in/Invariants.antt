use Rattle.std.proofs.Common.{◌≡◌, map, take}
use Rattle.build_outcome.specs.PartLaws.{pair_number}
use Rattle.callers.proofs.partitions.numbers_in.Given as goal

abbrev pub invariant-loop-record : goal.invariant-loop-record
invariant-loop-record l = l.numbers.items ≡ map (λ r. pair_number l.spread l.seed l.part r.a r.b) (take l.record-index l.records)
