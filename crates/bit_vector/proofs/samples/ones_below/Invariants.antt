use Rattle.std.proofs.Common.{◌≡◌, take}
use Rattle.bit_vector.specs.Samples.{all_ones}
use Rattle.bit_vector.proofs.samples.ones_below.Given as goal

abbrev pub invariant-loop-w : goal.invariant-loop-w
invariant-loop-w l = l.below ≡ all_ones (take l.w l.words)
