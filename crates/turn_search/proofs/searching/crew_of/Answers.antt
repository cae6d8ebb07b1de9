use Rattle.std.proofs.Common.{arith}
use Rattle.turn_search.proofs.searching.crew_of.Goals as goal

pub returns-clause-len : goal.returns-clause-len
returns-clause-len c = omega (arith, c.in_ok-join_crew-2.ensures.len, c.loop.invariant.len, c.loop.invariant.within)
