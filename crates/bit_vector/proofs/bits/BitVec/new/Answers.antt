use Rattle.std.proofs.Common.{refl, arith}
use Rattle.bit_vector.specs.Bits.{bits_of}
use Rattle.bit_vector.proofs.PackLemmas.{packed_none}
use Rattle.bit_vector.proofs.bits.BitVec.new.Goals as goal

pub invariant_of-result : goal.invariant_of-result
invariant_of-result c = (rw c.new.ensures.items packed_none, omega arith)

pub returns : goal.returns
unfolding bits_of
returns c = refl
