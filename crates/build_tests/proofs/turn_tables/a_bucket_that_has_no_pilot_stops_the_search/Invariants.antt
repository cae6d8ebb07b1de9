use Rattle.std.proofs.Common.{◌≤◌}
use Rattle.pthash.specs.Order.{most_members}
use Rattle.build_tests.proofs.turn_tables.a_bucket_that_has_no_pilot_stops_the_search.Given as goal

abbrev pub invariant-loop-first_closes : goal.invariant-loop-first_closes
invariant-loop-first_closes g l = most_members l.plan.buckets ≤ l.scratch.members
