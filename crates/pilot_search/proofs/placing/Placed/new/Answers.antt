use Rattle.std.proofs.Common.{ap, ◌∙◌}
use Rattle.std.specs.Prelude.{replicate}
use Rattle.pilot_search.proofs.Steps.{started}
use Rattle.pilot_search.proofs.placing.Placed.new.Goals as goal

pub returns-clause-placed : goal.returns-clause-placed
returns-clause-placed c =
    started c.args.plan.now c.in_ok-pilots.pilots.items c.in_ok-occupied.occupied
    (c.in_ok-pilots.ensures.items_if_clones_equal (λ y same. same) ∙ ap (λ n. replicate n 0) c.ranks.ensures.value)
    c.in_ok-occupied.ensures.taken
    (c.in_ok-occupied.ensures.size ∙ c.size.ensures.value)
