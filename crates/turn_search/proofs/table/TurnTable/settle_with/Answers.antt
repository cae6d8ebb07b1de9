use Rattle.std.proofs.Common.{refl}
use Rattle.turn_search.proofs.table.TurnTable.settle_with.Goals as goal

pub commit_at-requires-clause-shown : goal.commit_at-requires-clause-shown
commit_at-requires-clause-shown g c = c.in-Found.ensures.shown c.in-Found.shown refl
