use Rattle.std.proofs.Common.{◌≡◌, ◌%◌, ◌<◌, ap, sym, ◌∙◌, arith}
use Rattle.word_bits.specs.Laws.{one_shl-word}
use Rattle.turn_search.specs.Words.{ranks_of}
use Rattle.turn_search.proofs.Seats.{may_claim, seated_on}
use Rattle.turn_search.proofs.table.TurnTable.take_claim.Goals as goal

pub fetch_or-found-requires : goal.fetch_or-found-requires
fetch_or-found-requires c =
    let table = c.self.inside in
    let pass = c.pass.inside in
    let left : pass.place < ranks_of table.plan.now =
    omega (arith, c.requires.left, ap (λ t. ranks_of t.plan) c.self.view_is, ap (λ p. p.view.place) c.pass.view_is, c.pass.invariant.place_is) in
    let may = may_claim table.plan.now table.board.shared.key table.board.shared.table_id.words table.board.shared.table_id.slots table.pilots.items
    table.bits table.size table.hashes.items c.self.invariant
    pass.seat.id pass.seat.me pass.place _ c.pass.invariant.place_is (ap (λ p. p.view.claim) c.pass.view_is ∙ c.requires.no_claim) left
    (one_shl-word (pass.place % 64) (omega arith)) in
    (ap (λ p. p.table) c.pass.view_is ∙ c.requires.pass.same_table ∙ sym (ap (λ t. t.table) c.self.view_is), may.0, may.1)

pub invariant_of-pass : goal.invariant_of-pass
invariant_of-pass c =
    let table = c.self.inside in
    let pass = c.pass.inside in
    let same : pass.seat.me.0.plan ≡ table.plan.now =
    ap (λ p. p.view.plan) c.pass.view_is ∙ c.requires.pass.same_plan ∙ sym (ap (λ t. t.plan) c.self.view_is) in
    let left : pass.place < ranks_of pass.seat.me.0.plan =
    omega (
      arith,
      ap ranks_of same,
      c.requires.left,
      ap (λ t. ranks_of t.plan) c.self.view_is,
      ap
          (λ p. p.view.place) c.pass.view_is,
      c.pass.invariant.place_is,
    ) in
    seated_on pass.seat.me _ pass.place _ c.pass.invariant (ap (λ p. p.view.claim) c.pass.view_is ∙ c.requires.no_claim) left c.fetch_or-found.ensures.2
