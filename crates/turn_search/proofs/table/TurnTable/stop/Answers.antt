use Rattle.std.proofs.Common.{ap, sym, ◌∙◌, subst}
use Rattle.turn_search.specs.Looks.{RejectsBelow}
use Rattle.turn_search.specs.Passes.{TurnTableData, PassData}
use Rattle.turn_search.proofs.Seats.{may_stop}
use Rattle.turn_search.proofs.table.TurnTable.stop.Goals as goal

pub fetch_or-requires : goal.fetch_or-requires
fetch_or-requires c =
    let table = c.self.inside in
    let pass = c.pass.inside in
    let held = ap (λ p. p.view.holds) c.pass.view_is ∙ c.requires.holds in
    let turn = c.pass.invariant.has_turn held in
    let claims = sym (ap (λ p. p.view.claim) c.pass.view_is) ∙ turn.1.claims in
    let may = may_stop table.plan.now table.board.shared.key table.board.shared.table_id.words table.board.shared.table_id.slots table.pilots.items
    table.bits table.size table.hashes.items c.self.invariant
    pass.seat.id pass.seat.me turn.0 held turn.1.claims
    (ap (λ p. p.view.bits) c.pass.view_is ∙ c.requires.pass.set_nothing)
    (subst (λ (x : PassData × TurnTableData). RejectsBelow x.0.view turn.0 x.1.plan.limit) (λ i. (sym c.pass.view_is i, sym c.self.view_is i))
    (c.requires.all_rejected turn.0 claims)) in
    (ap (λ p. p.table) c.pass.view_is ∙ c.requires.pass.same_table ∙ sym (ap (λ t. t.table) c.self.view_is), may.0, may.1)
