use Rattle.std.proofs.Common.{◌≡◌, ap, sym, ◌∙◌, subst}
use Rattle.turn_search.specs.Rule.{keys_at}
use Rattle.turn_search.specs.Passes.{TurnTableData, PassData}
use Rattle.turn_search.proofs.Seats.{may_pass}
use Rattle.turn_search.proofs.table.TurnTable.pass_turn.Goals as goal

pub fetch_add-requires : goal.fetch_add-requires
fetch_add-requires c =
    let table = c.self.inside in
    let pass = c.pass.inside in
    let may = may_pass table.plan.now table.board.shared.key table.board.shared.table_id.words table.board.shared.table_id.slots table.pilots.items
    table.bits table.size table.hashes.items c.self.invariant
    pass.seat.id pass.seat.me c.args.rank
    (ap (λ p. p.view.holds) c.pass.view_is ∙ c.requires.holds) (ap (λ p. p.view.claim) c.pass.view_is ∙ c.requires.claim)
    (subst (λ (x : PassData × TurnTableData). x.0.view.bits ≡ keys_at x.1.plan c.args.rank)
    (λ i. (sym c.pass.view_is i, sym c.self.view_is i)) c.requires.all_set)
    (ap (λ p. p.view.wrote) c.pass.view_is ∙ c.requires.stored) in
    (ap (λ p. p.table) c.pass.view_is ∙ c.requires.pass.same_table ∙ sym (ap (λ t. t.table) c.self.view_is), may.0, may.1)
