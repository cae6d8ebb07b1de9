use Rattle.std.proofs.Common.{arith}
use Rattle.pilot_search.proofs.Steps.{known_pilot}
use Rattle.pilot_search.proofs.adopting.adopt_pilots.Goals as goal

pub adopt_pilot-requires-clause-pilot : goal.adopt_pilot-requires-clause-pilot
adopt_pilot-requires-clause-pilot c =
    let l = c.loop-rank in
    known_pilot c.args.plan.now l.rank l.pilots c.args.known.now l.occupied l.invariant.so_far c.requires.known (omega arith)
