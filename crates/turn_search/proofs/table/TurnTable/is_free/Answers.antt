use Rattle.std.proofs.Common.{◌<◌, ◌/◌, ap, sym, ◌∙◌, arith}
use Rattle.turn_search.specs.Words.{words_for}
use Rattle.turn_search.proofs.Seats.{may_look}
use Rattle.turn_search.proofs.table.TurnTable.is_free.Goals as goal

pub load-found-requires : goal.load-found-requires
load-found-requires c =
    let table = c.self.inside in
    let pass = c.pass.inside in
    let below : c.args.position / 64 < words_for table.plan.now.size = omega (arith, c.requires.position, ap (λ t. t.plan.size) c.self.view_is) in
    let may = may_look table.plan.now table.board.shared.key table.board.shared.table_id.words table.board.shared.table_id.slots table.pilots.items
    table.bits table.size table.hashes.items c.self.invariant
    pass.seat.id pass.seat.me table.bits (c.args.position / 64) c.self.invariant.bits_are
    (ap (λ p. p.view.plan) c.pass.view_is ∙ c.requires.pass.same_plan ∙ sym (ap (λ t. t.plan) c.self.view_is))
    (ap (λ p. p.view.bits) c.pass.view_is ∙ c.requires.pass.set_nothing) below in
    (ap (λ p. p.table) c.pass.view_is ∙ c.requires.pass.same_table ∙ sym (ap (λ t. t.table) c.self.view_is), may.0, may.1)
