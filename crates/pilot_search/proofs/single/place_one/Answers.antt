use Rattle.std.proofs.Common.{sym, ap, ◌∙◌, arith}
use Rattle.std.specs.Prelude.{nat_lt}
use Rattle.std.specs.List.{list_all}
use Rattle.std.specs.FinSet as set
use Rattle.pthash.specs.Search.{pilot_of, pilot_fits, positions_of}
use Rattle.pthash.specs.Least.{least_below-found, least_below-none}
use Rattle.pthash.specs.PositionLaws.{positions_below}
use Rattle.pilot_search.proofs.single.place_one.Goals as goal

pub take_all-requires : goal.take_all-requires
take_all-requires c =
    let size = c.new-size.ensures ∙ c.size.ensures.value in
    ap (list_all (λ p. nat_lt p c.args.occupied.now.size)) (c.positions.ensures ∙ c.in-Some.ensures.positions)
    ∙ ap (λ s. list_all (λ p. nat_lt p s) (positions_of c.args.seed c.new-size.result c.args.members.now c.in-Some.pilot)) (sym size)
    ∙ positions_below c.args.seed c.new-size.result c.args.members.now c.in-Some.pilot (omega (arith, c.new-size.ensures, c.size.ensures.positive))

pub returns-in-Some-clause-pilot : goal.returns-in-Some-clause-pilot
returns-in-Some-clause-pilot c =
    let size = c.new-size.ensures ∙ c.size.ensures.value in
    let taken = set.contains c.args.occupied.now.taken in
    sym (ap (λ s. pilot_of c.args.seed s c.args.limit taken c.args.members.now) (sym size)
    ∙ least_below-found (pilot_fits c.args.seed c.new-size.result taken c.args.members.now) c.args.limit c.in-Some.pilot c.in-Some.ensures.pilot)

pub returns-in-None-clause-pilot : goal.returns-in-None-clause-pilot
returns-in-None-clause-pilot c =
    let size = c.new-size.ensures ∙ c.size.ensures.value in
    let taken = set.contains c.args.occupied.now.taken in
    sym (ap (λ s. pilot_of c.args.seed s c.args.limit taken c.args.members.now) (sym size)
    ∙ least_below-none (pilot_fits c.args.seed c.new-size.result taken c.args.members.now) c.args.limit c.in-None.ensures.pilot.fails)

pub returns-in-Some-clause-taken : goal.returns-in-Some-clause-taken
returns-in-Some-clause-taken c =
    let size = c.new-size.ensures ∙ c.size.ensures.value in
    c.take_all.ensures.taken
    ∙ ap (λ ps. set.union c.args.occupied.now.taken (set.from_list ps)) (c.positions.ensures ∙ c.in-Some.ensures.positions)
    ∙ ap (λ s. set.union c.args.occupied.now.taken (set.from_list (positions_of c.args.seed s c.args.members.now c.in-Some.pilot))) size
