use Rattle.std.proofs.Common.{◌≡◌}
use Rattle.turn_search.specs.Passes.{IsPassAt, with_bits}
use Rattle.turn_search.proofs.table.TurnTable.set_bits.Given as goal

abbrev pub invariant-loop-position : goal.invariant-loop-position
invariant-loop-position l = IsPassAt l.self l.pass × (l.pass.view ≡ with_bits l.initial.pass.view l.position-index)
