use Rattle.std.proofs.Common.{◌≤◌}
use Rattle.elias_fano.specs.Values.{below_len}
use Rattle.index_file.proofs.counts.below.Given as goal

abbrev pub invariant-loop-i : goal.invariant-loop-i
invariant-loop-i l = l.i ≤ below_len l.bound l.numbers
