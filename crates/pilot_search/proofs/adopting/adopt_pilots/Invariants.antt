use Rattle.std.proofs.Common.{◌≡◌}
use Rattle.pilot_search.specs.Outcome.{IsSearchedTo}
use Rattle.pilot_search.proofs.adopting.adopt_pilots.Given as goal

abbrev pub invariant-loop-rank : goal.invariant-loop-rank
invariant-loop-rank l = record {
  so_far : IsSearchedTo l.plan l.rank l.pilots l.occupied;
  room : l.scratch.members ≡ l.initial.scratch.members;
}
