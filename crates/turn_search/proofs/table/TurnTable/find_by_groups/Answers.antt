use Rattle.std.proofs.Common.{sym, ap, ◌∙◌, subst}
use Rattle.pilot_search.specs.Kept.{AreHashes}
use Rattle.turn_search.proofs.Looked.{candidate_on, found_on}
use Rattle.turn_search.proofs.table.TurnTable.find_by_groups.Goals as goal

pub find_in_group-requires-clause-size : goal.find_in_group-requires-clause-size
find_in_group-requires-clause-size c = c.self.invariant.same_size ∙ ap (λ t. t.plan.size) c.self.view_is

pub find_in_group-requires-clause-hashes : goal.find_in_group-requires-clause-hashes
find_in_group-requires-clause-hashes c =
    subst (AreHashes c.args.self.now.plan.seed) (sym c.deref.ensures.value)
    (subst (λ t. AreHashes t.plan.seed c.self.inside.hashes.items) c.self.view_is c.self.invariant.hashes_are)

pub returns-in-Some-clause-found : goal.returns-in-Some-clause-found
returns-in-Some-clause-found c =
    candidate_on c.args.self.now.plan c.args.pass.now.view c.loop-members.pass.view c.find_in_group.new.pass.view c.args.rank c.in-Some.pilot
    c.loop-members.invariant.looks c.find_in_group.ensures.looks c.in-Some.ensures.found

pub returns-clause-found : goal.returns-clause-found
returns-clause-found c =
    found_on c.args.self.now.plan c.args.pass.now.view c.loop-members.pass.view c.find_between.new.pass.view c.args.rank c.find_between.result
    c.loop-members.invariant.looks c.find_between.ensures.looks c.find_between.ensures.found
