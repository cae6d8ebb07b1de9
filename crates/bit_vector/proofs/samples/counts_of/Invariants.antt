use Rattle.std.proofs.Common.{◌≡◌, ℕ, ◌+◌, ◌*◌, ◌/◌, ◌<◌, ◌≤◌, length, take, slice_index}
use Rattle.bit_vector.specs.Samples.{all_ones}
use Rattle.bit_vector.proofs.samples.counts_of.Given as goal

abbrev pub invariant-loop-at : goal.invariant-loop-at
invariant-loop-at l = record {
  total_is : l.total ≡ all_ones (take l.at l.words);
  most : l.total ≤ 64 * l.at;
  len : length l.counts.items ≡ (l.at + 15) / 16;
  before : (b : ℕ) → b < length l.counts.items → slice_index l.counts.items b ≡ all_ones (take (16 * b) l.words);
}
