use Rattle.std.proofs.Common.{◌≡◌, take}
use Rattle.bit_vector.specs.Samples.{all_ones}
use Rattle.bit_vector.proofs.samples.first_one.Given as goal

abbrev pub invariant-loop-at : goal.invariant-loop-at
invariant-loop-at l = all_ones (take l.at l.words) ≡ all_ones (take l.from l.words)
