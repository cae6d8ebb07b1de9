use Rattle.std.proofs.Common.{◌≡◌, true, ap, ◌∙◌, subst, refl}
use Rattle.std.specs.List.{list_all}
use Rattle.pthash.specs.SearchLaws.{positions_at}
use Rattle.turn_search.specs.Looks.{found_free, Shows}
use Rattle.turn_search.specs.Passes.{new_looks}
use Rattle.turn_search.proofs.Looked.{looked_candidate, same_candidate, spread_shows}
use Rattle.turn_search.proofs.table.TurnTable.retest_spread.Goals as goal

pub returns-then-are_still_free-clause-shown : goal.returns-then-are_still_free-clause-shown
returns-then-are_still_free-clause-shown c = λ it is.
    let before = c.args.pass.now.view in
    let after = c.are_still_free.new.pass.view in
    let looked = c.are_still_free.ensures.looks in
    subst (λ t. Shows after t.rank t.pilot) (same_candidate c.args.candidate it is)
    (spread_shows c.args.self.now.plan before after c.args.candidate c.args.scratch.now.positions c.are_still_free.ensures.pass.same_plan looked
    c.know_turn.ensures.turn c.requires.holds c.requires.candidate c.requires.spread
    (subst (λ ps. list_all (found_free (new_looks before after)) ps ≡ true) c.positions.ensures (c.if-are_still_free.ensures.free refl)))

pub returns-then-are_still_free-clause-positions : goal.returns-then-are_still_free-clause-positions
returns-then-are_still_free-clause-positions c = λ it is.
    subst (λ t. c.args.scratch.now.positions ≡ positions_at c.args.self.now.plan t.rank t.pilot) (same_candidate c.args.candidate it is)
    c.requires.spread.positions_are

pub retest-requires-clause-holds : goal.retest-requires-clause-holds
retest-requires-clause-holds c = ap (λ v. v.holds) c.are_still_free.ensures.looks.view ∙ c.requires.holds

pub retest-requires-clause-candidate : goal.retest-requires-clause-candidate
retest-requires-clause-candidate c =
    looked_candidate c.args.pass.now.view c.are_still_free.new.pass.view c.args.candidate c.are_still_free.ensures.looks c.requires.candidate
