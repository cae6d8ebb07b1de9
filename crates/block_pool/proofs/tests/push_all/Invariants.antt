use Rattle.std.proofs.Common.{◌≡◌, length}
use Rattle.block_pool.proofs.tests.push_all.Given as goal

abbrev pub invariant-loop-k : goal.invariant-loop-k
invariant-loop-k l = length l.pool.chains ≡ length l.fn.pool.chains
