use Rattle.std.proofs.Common.{◌-◌, ◌<◌, ◌≤◌, length, slice_index}
use Rattle.bit_vector.proofs.samples.block_before.Given as goal

abbrev pub invariant-loop-low : goal.invariant-loop-low
invariant-loop-low l = record { low_in : l.low < length l.counts; high_in : l.high ≤ length l.counts; before : slice_index l.counts l.low ≤ l.i }

abbrev pub decreases-loop-low : goal.decreases-loop-low
decreases-loop-low l = l.high - l.low
