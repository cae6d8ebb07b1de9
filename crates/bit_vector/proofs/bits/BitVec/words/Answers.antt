use Rattle.std.proofs.Common.{sym, ap, ◌∙◌}
use Rattle.bit_vector.specs.Bits.{packed}
use Rattle.bit_vector.proofs.ViewLemmas.{packed-bits_of}
use Rattle.bit_vector.proofs.bits.BitVec.words.Goals as goal

pub returns : goal.returns
returns c = c.deref.ensures.value ∙ sym (packed-bits_of c.self.inside.words.items c.self.inside.len c.self.invariant.0) ∙ ap packed c.self.view_is
