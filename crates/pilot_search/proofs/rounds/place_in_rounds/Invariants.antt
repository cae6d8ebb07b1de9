use Rattle.std.proofs.Common.{◌≡◌, ◌≤◌, ◌-◌, length}
use Rattle.pilot_search.specs.Outcome.{IsSearchedTo}
use Rattle.pilot_search.proofs.rounds.place_in_rounds.Given as goal

abbrev pub invariant-loop-start : goal.invariant-loop-start
invariant-loop-start o l = record {
  so_far : IsSearchedTo l.plan l.start l.pilots l.occupied;
  within : l.start ≤ length l.plan.buckets;
  run : l.run ≤ l.most;
  shares : length l.shares ≡ length l.initial.shares;
  room : l.scratch.members ≡ l.initial.scratch.members;
}

abbrev pub decreases-loop-start : goal.decreases-loop-start
decreases-loop-start o l = length l.plan.buckets - l.start
