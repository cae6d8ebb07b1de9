use Rattle.std.proofs.Common.{◌≡◌, length, take}
use Rattle.elias_fano.specs.Spelling.{last_of, high_places, marks, high_len}
use Rattle.elias_fano.proofs.build.high_part.Given as goal

abbrev pub invariant-loop-i : goal.invariant-loop-i
invariant-loop-i l = l.high ≡ marks 0 (high_len (length l.values) (last_of 0 l.values) l.width) (high_places l.width 0 (take l.i l.values))
