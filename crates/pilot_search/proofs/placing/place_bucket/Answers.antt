use Rattle.std.proofs.Common.{ℕ, List, sym, ap, ◌∙◌, arith}
use Rattle.std.specs.Prelude.{nat_lt}
use Rattle.std.specs.List.{list_all}
use Rattle.std.specs.FinSet as set
use Rattle.pthash.specs.Search.{positions_of, pilot_fits}
use Rattle.pthash.specs.Least.{least_below-found, least_below-none}
use Rattle.pthash.specs.PositionLaws.{positions_below}
use Rattle.pilot_search.proofs.Steps.{IsTask, task_pilot, task_positions, placed_more, stuck_here}
use Rattle.pilot_search.proofs.placing.place_bucket.Goals as goal

pub take_all-requires : goal.take_all-requires
take_all-requires c =
    let table = c.args.occupied.now in
    let seed : ℕ = c.seed.result in
    let size : ℕ = c.args.size.now in
    let members : List ℕ = c.members-members.result.now in
    let pilot : ℕ = c.in-Some.pilot in
    let same_size = c.requires.divisor ∙ sym c.requires.so_far.size in
    ap (list_all (λ p. nat_lt p table.size)) (c.positions.ensures ∙ c.in-Some.ensures.positions)
    ∙ ap (λ s. list_all (λ p. nat_lt p s) (positions_of seed size members pilot)) (sym same_size)
    ∙ positions_below seed size members pilot (omega (arith, c.requires.divisor, c.members-members.ensures.searchable.has_position))

pub returns-in-Some-clause-placed : goal.returns-in-Some-clause-placed
returns-in-Some-clause-placed c =
    let plan = c.args.plan.now in
    let table = c.args.occupied.now in
    let rank : ℕ = c.args.rank in
    let seed : ℕ = c.seed.result in
    let size : ℕ = c.args.size.now in
    let limit : ℕ = c.limit.result in
    let members : List ℕ = c.members-members.result.now in
    let pilot : ℕ = c.in-Some.pilot in
    let is_taken = set.contains table.taken in
    let task : IsTask plan rank seed size limit members = record {
      same_seed = c.seed.ensures.value;
      same_size = c.requires.divisor;
      same_limit = c.limit.ensures.value;
      same_members = c.members-members.ensures.value;
    } in
    placed_more plan rank pilot c.args.pilots.now table c.take_all.new.self c.requires.rank c.requires.so_far
    (task_pilot plan rank seed size limit members is_taken task
    ∙ least_below-found (pilot_fits seed size is_taken members) limit pilot c.in-Some.ensures.pilot)
    c.take_all.ensures.size
    (c.take_all.ensures.taken
    ∙ ap (λ ps. set.union table.taken (set.from_list ps)) (c.positions.ensures ∙ c.in-Some.ensures.positions)
    ∙ ap (λ ps. set.union table.taken (set.from_list ps)) (task_positions plan rank seed size limit members pilot task))

pub returns-in-None-clause-stuck : goal.returns-in-None-clause-stuck
returns-in-None-clause-stuck c =
    let plan = c.args.plan.now in
    let table = c.args.occupied.now in
    let rank : ℕ = c.args.rank in
    let seed : ℕ = c.seed.result in
    let size : ℕ = c.args.size.now in
    let limit : ℕ = c.limit.result in
    let members : List ℕ = c.members-members.result.now in
    let is_taken = set.contains table.taken in
    let task : IsTask plan rank seed size limit members = record {
      same_seed = c.seed.ensures.value;
      same_size = c.requires.divisor;
      same_limit = c.limit.ensures.value;
      same_members = c.members-members.ensures.value;
    } in
    record {
      found = stuck_here plan rank c.args.pilots.now table c.requires.rank c.requires.so_far
          (task_pilot plan rank seed size limit members is_taken task
          ∙ least_below-none (pilot_fits seed size is_taken members) limit c.in-None.ensures.pilot.fails);
      bucket = c.bucket-bucket.ensures;
    }
