use Rattle.std.proofs.Common.{◌≡◌, length}
use Rattle.pilot_search.proofs.shares.shares_of.Given as goal

abbrev pub invariant-loop : goal.invariant-loop
invariant-loop l = length l.shares.items ≡ l.counter
