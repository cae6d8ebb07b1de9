use Rattle.std.proofs.Common.{◌≡◌, take, drop, length}
use Rattle.std.specs.Slots.{slots_items}
use Rattle.turn_search.proofs.closing.copy_pilots.Given as goal

abbrev pub invariant-loop-rank : goal.invariant-loop-rank
invariant-loop-rank l =
    (length l.pilots ≡ length l.initial.pilots) × (take l.rank l.pilots ≡ take l.rank (drop l.from (slots_items l.closed.words)))
