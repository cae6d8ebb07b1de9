use Rattle.std.proofs.Common.{◌≡◌, ◌++◌, ◌≤◌, ◌^◌, length}
use Rattle.pilot_codecs.specs.Spelling.{groups_of, groups_for}
use Rattle.pilot_codecs.proofs.parted.Parted.encode.Given as goal

abbrev pub invariant-loop-rest : goal.invariant-loop-rest
invariant-loop-rest l = record {
  so_far : l.groups ++ groups_of (groups_for (length l.rest)) l.rest ≡ groups_of (groups_for (length l.values)) l.values;
  few : length l.rest ≤ 2 ^ 30;
}

abbrev pub decreases-loop-rest : goal.decreases-loop-rest
decreases-loop-rest l = length l.rest
