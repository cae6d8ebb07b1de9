use Rattle.std.proofs.Common.{ap, sym, ◌∙◌, arith}
use Rattle.turn_search.proofs.ClaimKept.{split_allowed}
use Rattle.turn_search.proofs.table.TurnTable.split.Goals as goal

pub split_seat-requires : goal.split_seat-requires
split_seat-requires c =
    let table = c.self.inside in
    let seat = c.pass.inside.seat in (
      ap (λ p. p.table) c.pass.view_is ∙ c.requires.pass.same_table ∙ sym (ap (λ t. t.table) c.self.view_is),
      omega (arith, c.self.invariant.words_are),
      split_allowed table.board.shared.key seat.id seat.me.0,
    )
