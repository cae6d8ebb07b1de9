use Rattle.std.proofs.Common.{ap, sym, ◌∙◌}
use Rattle.turn_search.proofs.Seats.{may_load}
use Rattle.turn_search.proofs.table.TurnTable.load_turn.Goals as goal

pub load-requires : goal.load-requires
load-requires c =
    let table = c.self.inside in
    let pass = c.pass.inside in
    let may = may_load table.plan.now table.board.shared.key table.board.shared.table_id.words table.board.shared.table_id.slots table.pilots.items
    table.bits table.size table.hashes.items c.self.invariant
    pass.seat.id pass.seat.me in
    (ap (λ p. p.table) c.pass.view_is ∙ c.requires.pass.same_table ∙ sym (ap (λ t. t.table) c.self.view_is), may.0, may.1)
