use Rattle.pilot_search.proofs.CallerLemmas.{take-pilots}
use Rattle.pilot_search.proofs.tests.adopted.Goals as goal

pub adopt-requires-clause-pilots : goal.adopt-requires-clause-pilots
adopt-requires-clause-pilots c =
    rw c.as_slice-pilots.ensures.value (take-pilots c.args.plan.now c.args.placed.now c.args.count c.requires.placed c.requires.count)
