use Rattle.std.proofs.Common.{◌≡◌, length}
use Rattle.bench_pool.proofs.time.Given as goal

abbrev pub invariant-loop-chain : goal.invariant-loop-chain
invariant-loop-chain g l = length l.pool.chains ≡ 64
