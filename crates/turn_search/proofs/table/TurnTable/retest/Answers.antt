use Rattle.turn_search.proofs.Looked.{found_same_rank, found_shows, found_is_pilot, rejects_where_stuck}
use Rattle.turn_search.proofs.table.TurnTable.retest.Goals as goal

pub returns-clause-shown : goal.returns-clause-shown
returns-clause-shown c = λ it is.
    let now = c.spec_from-spec.ensures in
    found_shows c.args.self.now.plan c.args.pass.now.view c.spec_from-spec.new.pass.view c.args.candidate.rank now.looks now.pass.same_plan
    c.know_turn.ensures.size
    c.know_turn.ensures.turn c.know_turn-2.ensures.turn c.requires.holds c.requires.candidate.rank it (now.rank it is) (now.found it is)

pub returns-clause-pilot : goal.returns-clause-pilot
returns-clause-pilot c = λ it is.
    let now = c.spec_from-spec.ensures in
    found_is_pilot c.args.self.now.plan c.args.pass.now.view c.spec_from-spec.new.pass.view c.args.candidate.rank now.looks now.pass.same_plan
    c.know_turn.ensures.size
    c.know_turn.ensures.turn c.know_turn-2.ensures.turn c.requires.holds c.requires.candidate.rank it (now.rank it is) (now.found it is)

pub returns-clause-stuck : goal.returns-clause-stuck
returns-clause-stuck c =
    let now = c.spec_from-spec.ensures in
    rejects_where_stuck c.args.self.now.plan c.args.pass.now.view c.spec_from-spec.new.pass.view c.args.candidate.rank now.looks now.pass.same_plan
    c.know_turn.ensures.size
    c.know_turn.ensures.turn c.know_turn-2.ensures.turn c.requires.holds c.requires.candidate.rank c.spec_from-spec.result now.rank now.found now.all_rejected

pub returns-clause-same_rank : goal.returns-clause-same_rank
returns-clause-same_rank c = λ it is.
    let now = c.spec_from-spec.ensures in
    found_same_rank c.args.self.now.plan c.args.pass.now.view c.spec_from-spec.new.pass.view c.args.candidate.rank now.looks now.pass.same_plan
    c.know_turn.ensures.size
    c.know_turn.ensures.turn c.know_turn-2.ensures.turn c.requires.holds c.requires.candidate.rank it (now.rank it is)
