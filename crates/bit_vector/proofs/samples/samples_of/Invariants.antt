use Rattle.std.proofs.Common.{◌≡◌, ℕ, ◌+◌, ◌*◌, ◌/◌, ◌%◌, ◌<◌, ◌≤◌, length, take, slice_index}
use Rattle.bit_vector.specs.Samples.{all_ones}
use Rattle.bit_vector.proofs.samples.samples_of.Given as goal

abbrev pub invariant-loop-at : goal.invariant-loop-at
invariant-loop-at l = record {
  total_is : l.total ≡ all_ones (take l.at l.words);
  most : l.total ≤ 64 * l.at;
  next_is : l.next ≡ 128 * length l.samples.items;
  due : l.total ≤ l.next;
  soon : l.next ≤ l.total + 128;
  within : (j : ℕ) → j < length l.samples.items → slice_index l.samples.items j / 64 < l.at;
  number : (j : ℕ) → j < length l.samples.items
      → all_ones (take (slice_index l.samples.items j / 64) l.words) + slice_index l.samples.items j % 64 ≡ 128 * j;
}
