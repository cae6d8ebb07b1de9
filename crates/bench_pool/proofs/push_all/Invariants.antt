use Rattle.std.proofs.Common.{◌≡◌, length}
use Rattle.bench_pool.proofs.push_all.Given as goal

abbrev pub invariant-loop-ordinal : goal.invariant-loop-ordinal
invariant-loop-ordinal l = length l.pool.chains ≡ 64
