use Rattle.std.proofs.Common.{◌≡◌, ◌-◌}
use Rattle.std.specs.Prelude.{None}
use Rattle.turn_search.specs.Words.{ranks_of}
use Rattle.turn_search.specs.Passes.{IsPassOf}
use Rattle.turn_search.proofs.table.TurnTable.work.Given as goal

abbrev pub invariant-loop-rank : goal.invariant-loop-rank
invariant-loop-rank o l = record {
  pass : IsPassOf l.self l.pass;
  no_claim : l.pass.view.claim ≡ None;
  room : l.scratch.members ≡ l.initial.scratch.members;
}

abbrev pub decreases-loop-rank : goal.decreases-loop-rank
decreases-loop-rank o l = ranks_of l.self.plan - l.pass.view.place
