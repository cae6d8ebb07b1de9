use Rattle.std.proofs.Common.{◌≤◌}
use Rattle.pthash.specs.Order.{most_members}
use Rattle.build_tests.proofs.turn_tables.two_buckets_get_their_pilots_in_turn.Given as goal

abbrev pub invariant-loop-last_closes : goal.invariant-loop-last_closes
invariant-loop-last_closes g l = most_members l.plan.buckets ≤ l.scratch.members
