use Rattle.std.proofs.Common.{◌≡◌, length}
use Rattle.block_pool.proofs.tests.a_pool_of_one_block_fills_up.Given as goal

abbrev pub invariant-loop-k : goal.invariant-loop-k
invariant-loop-k g l = length l.pool.chains ≡ 1
