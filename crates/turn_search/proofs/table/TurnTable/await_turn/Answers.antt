use Rattle.turn_search.proofs.Waiting.{keeps_on}
use Rattle.turn_search.proofs.table.TurnTable.await_turn.Goals as goal

pub loop-preserved : goal.loop-preserved
loop-preserved g c = record {
  pass = c.look.ensures.pass;
  kept = keeps_on c.args.pass.now.view c.loop.pass.view c.look.new.pass.view _ c.loop.invariant.kept c.look.ensures.view;
}

pub returns-in-Mine-clause-kept : goal.returns-in-Mine-clause-kept
returns-in-Mine-clause-kept g c = keeps_on c.args.pass.now.view c.loop.pass.view c.look.new.pass.view _ c.loop.invariant.kept c.look.ensures.view

pub returns-in-Stopped-clause-kept : goal.returns-in-Stopped-clause-kept
returns-in-Stopped-clause-kept g c = keeps_on c.args.pass.now.view c.loop.pass.view c.look.new.pass.view _ c.loop.invariant.kept c.look.ensures.view
