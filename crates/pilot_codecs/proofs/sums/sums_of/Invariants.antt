use Rattle.std.proofs.Common.{◌≡◌, ◌*◌, ◌^◌, ◌≤◌, take}
use Rattle.pilot_codecs.specs.Spelling.{sums_from}
use Rattle.pilot_codecs.proofs.SumLemmas.{total}
use Rattle.pilot_codecs.proofs.sums.sums_of.Given as goal

abbrev pub invariant-loop-value : goal.invariant-loop-value
invariant-loop-value l = record {
  so_far : l.sums.items ≡ sums_from 0 (take l.value-index l.values);
  total_is : l.total ≡ total (take l.value-index l.values);
  most : l.total ≤ l.value-index * 2 ^ 32;
}
