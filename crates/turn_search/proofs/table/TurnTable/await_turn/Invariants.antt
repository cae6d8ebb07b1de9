use Rattle.turn_search.specs.Passes.{IsPassOf}
use Rattle.turn_search.specs.Works.{KeepsClaim}
use Rattle.turn_search.proofs.table.TurnTable.await_turn.Given as goal

abbrev pub invariant-loop : goal.invariant-loop
invariant-loop o l = record {
  pass : IsPassOf l.self l.pass;
  kept : KeepsClaim l.initial.pass.view l.pass.view;
}
