use Rattle.std.proofs.Common.{◌≡◌, length}
use Rattle.bench_pool.proofs.drain.Given as goal

abbrev pub invariant-loop : goal.invariant-loop
invariant-loop l = length l.pool.chains ≡ length l.fn.pool.chains
