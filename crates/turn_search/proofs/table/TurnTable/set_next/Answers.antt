use Rattle.std.proofs.Common.{◌≡◌, ◌<◌, ◌%◌, ap, sym, ◌∙◌, subst, arith}
use Rattle.word_bits.specs.Laws.{one_shl-word}
use Rattle.pthash.specs.SearchLaws.{positions_at}
use Rattle.std.specs.Prelude.{slice_index}
use Rattle.turn_search.specs.Looks.{Shows}
use Rattle.turn_search.specs.Rule.{keys_at}
use Rattle.turn_search.specs.Passes.{TurnTableData, PassData}
use Rattle.turn_search.proofs.Seats.{may_set, seated_same, turn_stays}
use Rattle.turn_search.proofs.table.TurnTable.set_next.Goals as goal

pub fetch_or-requires : goal.fetch_or-requires
fetch_or-requires c =
    let table = c.self.inside in
    let pass = c.pass.inside in
    let rank = c.args.rank in
    let pilot = c.args.pilot in
    let may = may_set table.plan.now table.board.shared.key table.board.shared.table_id.words table.board.shared.table_id.slots table.pilots.items
    table.bits table.size table.hashes.items c.self.invariant
    pass.seat.id pass.seat.me table.bits rank pilot c.args.position _ c.self.invariant.bits_are
    (subst (λ (p : PassData). Shows p.view rank pilot) (sym c.pass.view_is) c.requires.shown)
    (subst (λ (x : PassData × TurnTableData). x.0.view.bits < keys_at x.1.plan rank) (λ i. (sym c.pass.view_is i, sym c.self.view_is i)) c.requires.left)
    (ap (λ p. p.view.wrote) c.pass.view_is ∙ c.requires.quiet)
    (subst (λ (x : PassData × TurnTableData). c.args.position ≡ slice_index (positions_at x.1.plan rank pilot) x.0.view.bits)
    (λ i. (sym c.pass.view_is i, sym c.self.view_is i)) c.requires.position)
    (one_shl-word (c.args.position % 64) (omega arith)) in
    (ap (λ p. p.table) c.pass.view_is ∙ c.requires.pass.same_table ∙ sym (ap (λ t. t.table) c.self.view_is), may.0, may.1)

pub invariant_of-pass : goal.invariant_of-pass
invariant_of-pass c =
    let pass = c.pass.inside in
    let told = c.fetch_or.ensures.2 in
    seated_same pass.seat.me _ pass.place c.pass.invariant (ap (λ m. m.1) told) (ap (λ m. m.0.place) told) (ap (λ m. m.0.plan) told)
    (λ rank is. sym (ap (λ m. m.0.claim) told) ∙ is)
    (turn_stays pass.seat.me.0 _ (ap (λ m. m.0.plan) told) (ap (λ m. m.0.claim) told) (ap (λ m. m.0.looks) told) (ap (λ m. m.0.mark) told)
    (λ held. sym (ap (λ m. m.0.holds) told) ∙ held) c.pass.invariant.has_turn)
