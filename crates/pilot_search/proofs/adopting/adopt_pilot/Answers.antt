use Rattle.std.proofs.Common.{ℕ, List, refl, sym, ap, ◌∙◌, arith}
use Rattle.std.specs.Prelude.{nat_lt}
use Rattle.std.specs.List.{list_all}
use Rattle.std.specs.FinSet as set
use Rattle.pthash.specs.Search.{positions_of}
use Rattle.pthash.specs.PositionLaws.{positions_below}
use Rattle.pilot_search.proofs.Steps.{IsTask, task_positions, placed_more}
use Rattle.pilot_search.proofs.adopting.adopt_pilot.Goals as goal

pub take_all-requires : goal.take_all-requires
take_all-requires c =
    let table = c.args.occupied.now in
    let seed : ℕ = c.seed.result in
    let size : ℕ = c.size.result in
    let members : List ℕ = c.members-members.result.now in
    let pilot : ℕ = c.args.pilot in
    let same_size = c.size.ensures.value ∙ sym c.requires.so_far.size in
    ap (list_all (λ p. nat_lt p table.size)) (c.positions.ensures ∙ c.spread.ensures.positions)
    ∙ ap (λ s. list_all (λ p. nat_lt p s) (positions_of seed size members pilot)) (sym same_size)
    ∙ positions_below seed size members pilot (omega (arith, c.size.ensures.value, c.members-members.ensures.searchable.has_position))

pub returns-clause-placed : goal.returns-clause-placed
returns-clause-placed c =
    let plan = c.args.plan.now in
    let table = c.args.occupied.now in
    let rank : ℕ = c.args.rank in
    let seed : ℕ = c.seed.result in
    let size : ℕ = c.size.result in
    let members : List ℕ = c.members-members.result.now in
    let pilot : ℕ = c.args.pilot in
    let task : IsTask plan rank seed size plan.limit members = record {
      same_seed = c.seed.ensures.value;
      same_size = c.size.ensures.value;
      same_limit = refl;
      same_members = c.members-members.ensures.value;
    } in
    placed_more plan rank pilot c.args.pilots.now table c.take_all.new.self c.requires.rank c.requires.so_far c.requires.pilot
    c.take_all.ensures.size
    (c.take_all.ensures.taken
    ∙ ap (λ ps. set.union table.taken (set.from_list ps)) (c.positions.ensures ∙ c.spread.ensures.positions)
    ∙ ap (λ ps. set.union table.taken (set.from_list ps)) (task_positions plan rank seed size plan.limit members pilot task))
