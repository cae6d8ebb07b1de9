use Rattle.std.proofs.Common.{◌≡◌, ℕ, ◌+◌, ◌*◌, ◌-◌, ◌^◌, ◌<◌, get_or}
use Rattle.pilot_codecs.specs.Parts.{values_in}
use Rattle.pilot_codecs.proofs.compact.is_width_of.Given as goal

abbrev pub invariant-loop : goal.invariant-loop
invariant-loop l = record {
  place : l.at ≡ l.counter * l.width + (l.width - 1);
  below : (k : ℕ) → k < l.counter → get_or (values_in l.count l.width l.words) k 0 < 2 ^ (l.width - 1);
}
