use Rattle.std.proofs.Common.{◌≡◌, ◌+◌, ◌*◌, ◌^◌, ◌<◌, ◌≤◌, length, take, drop}
use Rattle.bit_vector.specs.Bits.{ones}
use Rattle.elias_fano.specs.Spelling.{rises}
use Rattle.elias_fano.specs.Values.{values_of}
use Rattle.elias_fano.proofs.parts.do_rise.Given as goal

abbrev pub invariant-loop-i : goal.invariant-loop-i
invariant-loop-i l = record {
  so_far : rises (l.before * 2 ^ l.width + l.low_before) (drop l.i (values_of l.width l.low l.high)) ≡ rises 0 (values_of l.width l.low l.high);
  small : l.low_before < 2 ^ l.width;
  from_in : l.from ≤ length l.high;
  passed : ones (take l.from l.high) ≡ l.i;
}
