use Rattle.std.proofs.Common.{ℕ, ◌≡◌, ◌<◌, ◌+◌, ◌≤◌, ◌^◌, length, get_or}
use Rattle.pilot_codecs.specs.Spelling.{groups_for}
use Rattle.pilot_codecs.specs.Reading.{groups_at}
use Rattle.pilot_codecs.proofs.GroupLemmas.{with_front}
use Rattle.pilot_codecs.proofs.groups.read_groups.Given as goal

abbrev pub invariant-loop-left : goal.invariant-loop-left
invariant-loop-left l = record {
  so_far : with_front l.groups (groups_at (groups_for l.left) l.place l.left l.rest) ≡ groups_at (groups_for l.count) l.at l.count l.bytes;
  few : l.left ≤ 2 ^ 30;
  from : l.at ≤ l.place;
  places : l.place + length l.rest ≡ l.at + length l.bytes;
  fits : (i : ℕ) → get_or l.rest i 0 < 256;
}

abbrev pub decreases-loop-left : goal.decreases-loop-left
decreases-loop-left l = l.left
