use Rattle.std.proofs.Common.{◌≡◌, ◌+◌, ◌-◌, ◌<◌, length, drop, get_or}
use Rattle.pilot_codecs.specs.Reading.{rise_from, rise_len}
use Rattle.pilot_codecs.proofs.entries.rise.Given as goal

abbrev pub invariant-loop-i : goal.invariant-loop-i
invariant-loop-i l = 0 < length l.entries → rise_from (get_or l.entries (l.i - 1) 0) (drop l.i l.entries) + l.i ≡ rise_len l.entries
