use Rattle.std.proofs.Common.{◌≡◌, length}
use Rattle.block_pool.proofs.tests.a_pool_answers_as_lists_do.Given as goal

abbrev pub invariant-loop-step : goal.invariant-loop-step
invariant-loop-step g l = length l.pool.chains ≡ 4
