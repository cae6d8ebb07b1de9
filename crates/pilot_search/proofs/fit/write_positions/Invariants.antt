use Rattle.std.proofs.Common.{◌≡◌, take}
use Rattle.pilot_search.specs.Table.{positions_under}
use Rattle.pilot_search.proofs.fit.write_positions.Given as goal

abbrev pub invariant-loop-i : goal.invariant-loop-i
invariant-loop-i l = take l.i l.positions ≡ take l.i (positions_under l.hash l.size l.members)
