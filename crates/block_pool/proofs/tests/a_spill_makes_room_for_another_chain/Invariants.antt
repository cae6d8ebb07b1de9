use Rattle.std.proofs.Common.{◌≡◌, length}
use Rattle.block_pool.proofs.tests.a_spill_makes_room_for_another_chain.Given as goal

abbrev pub invariant-loop-k : goal.invariant-loop-k
invariant-loop-k g l = length l.pool.chains ≡ 3
