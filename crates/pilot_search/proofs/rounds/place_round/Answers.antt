use Rattle.std.proofs.Common.{◌≡◌, sym, ap, ◌∙◌, arith, take}
use Rattle.std.specs.FinSet.{contains}
use Rattle.pthash.specs.Order.{bucket_at}
use Rattle.pthash.specs.Search.{SearchState, pilot_fits}
use Rattle.pthash.specs.SearchLaws.{pilot_fits-more}
use Rattle.pthash.specs.PrefixLaws.{prefix_of-taken}
use Rattle.pilot_search.specs.Rounds.{HasNoLower}
use Rattle.pilot_search.proofs.rounds.place_round.Goals as goal

pub place_bucket-requires-clause-no_lower : goal.place_bucket-requires-clause-no_lower
place_bucket-requires-clause-no_lower c =
    let plan = c.args.plan.now in
    let before = c.args.occupied.now in
    let now = c.loop-rank.occupied in
    let members = (bucket_at plan.buckets c.loop-rank.rank).members in
    let tested : HasNoLower plan before c.loop-rank.rank c.tested_to-first.result = c.tested_to-first.ensures plan before c.requires.tested (omega arith) in
    let size : before.size ≡ c.args.size.now = c.requires.so_far.size ∙ sym c.requires.divisor in
    let state : SearchState = record { pilots = take c.args.start c.args.pilots.now; taken = before.taken } in
    let later : SearchState = record { pilots = take c.loop-rank.rank c.loop-rank.pilots; taken = now.taken } in
    let more = prefix_of-taken plan c.args.start c.loop-rank.rank state later
    c.requires.so_far.state c.loop-rank.invariant.so_far.state (omega arith) in
    record {
      fails = λ j below.
          pilot_fits-more plan.seed c.args.size.now (contains before.taken) (contains now.taken) members j more
          (ap (λ s. pilot_fits plan.seed s (contains before.taken) members j) (sym size) ∙ tested.fails j below);
    }
