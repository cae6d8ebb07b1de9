use Rattle.std.proofs.Common.{sym, ◌∙◌}
use Rattle.std.specs.FinSet.{contains}
use Rattle.pthash.specs.SearchLaws.{pilot_fits-repeated}
use Rattle.pilot_search.proofs.pilot.find_pilot.Goals as goal

pub returns-then-not-are_members_distinct-clause-pilot : goal.returns-then-not-are_members_distinct-clause-pilot
returns-then-not-are_members_distinct-clause-pilot c =
    let repeated = sym c.are_members_distinct.ensures ∙ c.if-not-are_members_distinct.true in
    record { fails = λ j below. pilot_fits-repeated c.args.seed c.args.size.now (contains c.args.occupied.now.taken) c.args.members.now j repeated }
