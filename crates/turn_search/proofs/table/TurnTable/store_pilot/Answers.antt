use Rattle.std.proofs.Common.{◌≡◌, ◌<◌, ap, sym, ◌∙◌, subst, arith}
use Rattle.turn_search.specs.Words.{ranks_of}
use Rattle.turn_search.specs.Looks.{Shows}
use Rattle.turn_search.specs.Rule.{keys_at}
use Rattle.turn_search.specs.Passes.{TurnTableData, PassData}
use Rattle.turn_search.proofs.Seats.{may_store, seated_same, turn_stays}
use Rattle.turn_search.proofs.table.TurnTable.store_pilot.Goals as goal

pub store-requires : goal.store-requires
store-requires c =
    let table = c.self.inside in
    let pass = c.pass.inside in
    let rank = c.args.rank in
    let pilot = c.args.pilot in
    let same = ap (λ p. p.view.plan) c.pass.view_is ∙ c.requires.pass.same_plan ∙ sym (ap (λ t. t.plan) c.self.view_is) in
    let claims = ap (λ p. p.view.claim) c.pass.view_is ∙ c.requires.shown.claims in
    let within : rank < ranks_of table.plan.now = omega (arith, ap ranks_of same, c.pass.invariant.claim_is rank claims, c.pass.invariant.place_within) in
    let may = may_store table.plan.now table.board.shared.key table.board.shared.table_id.words table.board.shared.table_id.slots table.pilots.items
    table.bits table.size table.hashes.items c.self.invariant
    pass.seat.id pass.seat.me c.pilots_from.result rank pilot c.pilots_from.ensures.value
    (subst (λ (p : PassData). Shows p.view rank pilot) (sym c.pass.view_is) c.requires.shown)
    (subst (λ (x : PassData × TurnTableData). x.0.view.bits ≡ keys_at x.1.plan rank)
    (λ i. (sym c.pass.view_is i, sym c.self.view_is i)) c.requires.all_set) within in
    (ap (λ p. p.table) c.pass.view_is ∙ c.requires.pass.same_table ∙ sym (ap (λ t. t.table) c.self.view_is), may.0, may.1)

pub invariant_of-pass : goal.invariant_of-pass
invariant_of-pass c =
    let pass = c.pass.inside in
    let told = c.store.ensures.2 in
    seated_same pass.seat.me _ pass.place c.pass.invariant (ap (λ m. m.1) told) (ap (λ m. m.0.place) told) (ap (λ m. m.0.plan) told)
    (λ rank is. sym (ap (λ m. m.0.claim) told) ∙ is)
    (turn_stays pass.seat.me.0 _ (ap (λ m. m.0.plan) told) (ap (λ m. m.0.claim) told) (ap (λ m. m.0.looks) told) (ap (λ m. m.0.mark) told)
    (λ held. sym (ap (λ m. m.0.holds) told) ∙ held) c.pass.invariant.has_turn)
