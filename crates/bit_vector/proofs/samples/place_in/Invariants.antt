use Rattle.std.proofs.Common.{◌≡◌, ◌+◌, ◌/◌, ◌%◌, ◌^◌, ◌<◌, ◌≤◌}
use Rattle.std.specs.Prelude.{◌⊎◌}
use Rattle.std.specs.Int.RustNames.{count_ones}
use Rattle.bit_vector.proofs.samples.place_in.Given as goal

abbrev pub invariant-loop-span : goal.invariant-loop-span
invariant-loop-span l = record {
  within : l.place + l.span ≤ 64;
  a_power : (l.span ≡ 64) ⊎ ((l.span ≡ 16) ⊎ ((l.span ≡ 4) ⊎ (l.span ≡ 1)));
  rest_is : l.rest ≡ l.word / 2 ^ l.place;
  number : count_ones (l.word % 2 ^ l.place) + l.left ≡ l.i;
  here : l.left < count_ones (l.rest % 2 ^ l.span);
}

abbrev pub decreases-loop-span : goal.decreases-loop-span
decreases-loop-span l = l.span
