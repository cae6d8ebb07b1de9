use Rattle.std.proofs.Common.{◌≡◌, take}
use Rattle.hem_build.specs.Gathering.{gathered}
use Rattle.hem_build.proofs.pieces.gather_into.Given as goal

abbrev pub invariant-loop-i : goal.invariant-loop-i
invariant-loop-i l = l.room.items ≡ gathered (take l.i l.pieces) l.number
