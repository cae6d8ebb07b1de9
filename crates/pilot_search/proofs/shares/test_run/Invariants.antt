use Rattle.std.proofs.Common.{ℕ, ◌+◌, ◌<◌, length}
use Rattle.std.specs.Prelude.{slice_index}
use Rattle.pilot_search.specs.Rounds.{HasNoLower}
use Rattle.pilot_search.proofs.shares.test_run.Given as goal

abbrev pub invariant-loop-i : goal.invariant-loop-i
invariant-loop-i l = (k : ℕ) → k < l.i → l.start + k < length l.plan.buckets → HasNoLower l.plan l.occupied (l.start + k) (slice_index l.firsts k)
