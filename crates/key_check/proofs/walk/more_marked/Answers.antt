use Rattle.std.specs.Prelude.{◌+◌}
use Rattle.std.proofs.Common.{arith}
use Rattle.std.proofs.Math.Nat.{mod-lt}
use Rattle.std.proofs.lemmas.Nat.{xor_lt}
use Rattle.key_check.proofs.walk.more_marked.Goals as goal

pub invariant_of-result : goal.invariant_of-result
invariant_of-result c = record {
  sum = mod-lt (c.mark.inside.sum + c.args.a) (omega arith);
  xor = xor_lt 64 c.mark.inside.xor c.args.b c.mark.invariant.xor c.ranges.b.fits;
}
