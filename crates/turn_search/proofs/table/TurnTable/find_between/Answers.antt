use Rattle.std.proofs.Common.{ap, refl, ◌∙◌}
use Rattle.turn_search.proofs.MoreLooks.{looked_on}
use Rattle.turn_search.proofs.Looked.{rejects_on, rejects_next, candidate_on}
use Rattle.turn_search.proofs.table.TurnTable.find_between.Goals as goal

pub try_pilot-requires-clause-size : goal.try_pilot-requires-clause-size
try_pilot-requires-clause-size c = c.self.invariant.same_size ∙ ap (λ t. t.plan.size) c.self.view_is

pub returns-then-try_pilot-clause-lower : goal.returns-then-try_pilot-clause-lower
returns-then-try_pilot-clause-lower c =
    rejects_on c.loop-pilot.pass.view c.try_pilot.new.pass.view c.args.rank c.loop-pilot.pilot c.try_pilot.ensures.looks c.loop-pilot.invariant.3

pub returns-then-try_pilot-clause-found : goal.returns-then-try_pilot-clause-found
returns-then-try_pilot-clause-found c =
    candidate_on c.args.self.now.plan c.args.pass.now.view c.loop-pilot.pass.view c.try_pilot.new.pass.view c.args.rank c.loop-pilot.pilot
    c.loop-pilot.invariant.1 c.try_pilot.ensures.looks (c.if-try_pilot.ensures.found refl)

pub loop-pilot-preserved : goal.loop-pilot-preserved
loop-pilot-preserved c =
    let now = c.try_pilot.ensures in
    let view = c.try_pilot.new.pass.view in (
      now.pass,
      looked_on c.args.pass.now.view c.loop-pilot.pass.view view c.loop-pilot.invariant.1 now.looks,
      now.room ∙ c.loop-pilot.invariant.2,
      rejects_next view c.args.rank c.loop-pilot.pilot
          (rejects_on c.loop-pilot.pass.view view c.args.rank c.loop-pilot.pilot now.looks c.loop-pilot.invariant.3) (c.if-try_pilot.ensures.rejected refl),
    )
