use Rattle.std.proofs.Common.{arith}
use Rattle.pilot_search.proofs.Steps.{done_within}
use Rattle.pilot_search.proofs.placing.place_from.Goals as goal

pub place_ranks-requires-clause-start : goal.place_ranks-requires-clause-start
place_ranks-requires-clause-start c =
    omega (
      arith,
      c.ranks.ensures.value,
      done_within c.args.plan.now c.args.placed.done c.args.placed.pilots.items c.args.placed.occupied c.requires.so_far,
    )
