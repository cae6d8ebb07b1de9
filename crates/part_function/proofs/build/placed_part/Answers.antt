use Rattle.std.proofs.Common.{Ok, length, sym, ap, ◌∙◌}
use Rattle.std.specs.FinSet.{contains}
use Rattle.build_outcome.specs.FreeList.{free_list_of}
use Rattle.pthash.specs.ByBucket.{pilots_by_number}
use Rattle.part_function.proofs.PlacedParts.{numbers_below_count, records_fit, made_part, made_IsPart}
use Rattle.part_function.proofs.build.placed_part.Goals as goal

pub by_number-requires-clause-below : goal.by_number-requires-clause-below
by_number-requires-clause-below c =
    numbers_below_count c.args.shape c.args.plan.limit c.args.plan.seed c.bucket_count.result c.args.records.now c.args.plan c.requires.plan
    c.bucket_count.ensures.value

pub free_list-requires : goal.free_list-requires
free_list-requires c =
    records_fit c.args.shape c.args.plan.limit c.args.plan.seed c.args.placed.occupied.size c.args.records.now c.args.plan c.requires.plan
    c.requires.placed.size

pub new-requires : goal.new-requires
new-requires c =
    let plan = c.args.plan in
    let records = c.args.records.now in
    made_IsPart c.args.shape plan.limit plan.seed records _ c.requires.some_pilot c.requires.few_pilots c.requires.few
    (made_part c.args.shape plan.limit plan.seed records plan (record { pilots = c.args.placed.pilots.items; taken = c.args.placed.occupied.taken })
    c.in_ok-pilots.pilots.items c.in_ok-free.free c.requires.some
    (record {
      plan_is = c.requires.plan;
      ends = c.requires.placed.found;
      pilots_are = c.in_ok-pilots.ensures ∙ ap (pilots_by_number plan.buckets c.args.placed.pilots.items) c.bucket_count.ensures.value;
      free_is = c.in_ok-free.ensures ∙ ap (free_list_of (contains c.args.placed.occupied.taken) (length records)) c.requires.placed.size;
    }))

pub returns : goal.returns
returns c =
    let plan = c.args.plan in
    let records = c.args.records.now in
    made_part c.args.shape plan.limit plan.seed records plan (record { pilots = c.args.placed.pilots.items; taken = c.args.placed.occupied.taken })
    c.in_ok-pilots.pilots.items c.in_ok-free.free c.requires.some
    (record {
      plan_is = c.requires.plan;
      ends = c.requires.placed.found;
      pilots_are = c.in_ok-pilots.ensures ∙ ap (pilots_by_number plan.buckets c.args.placed.pilots.items) c.bucket_count.ensures.value;
      free_is = c.in_ok-free.ensures ∙ ap (free_list_of (contains c.args.placed.occupied.taken) (length records)) c.requires.placed.size;
    })
    ∙ ap Ok (sym c.new.ensures)
