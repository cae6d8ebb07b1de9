use Rattle.std.proofs.Common.{arith}
use Rattle.std.proofs.lemmas.Nat.{xor_lt}
use Rattle.hem_build.proofs.mark.both_marks.Goals as goal

pub invariant_of-result : goal.invariant_of-result
invariant_of-result c = record {
  sum = omega arith;
  xor = xor_lt 64 c.first.inside.xor c.second.inside.xor c.first.invariant.xor c.second.invariant.xor;
}
