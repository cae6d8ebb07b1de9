use Rattle.std.proofs.Common.{length, sym, ap, ◌∙◌}
use Rattle.bit_vector.specs.Bits.{words_number}
use Rattle.bit_vector.proofs.BitLemmas.{length-bits_of}
use Rattle.bit_vector.proofs.bits.BitVec.len.Goals as goal

pub returns-clause-value : goal.returns-clause-value
returns-clause-value c = sym (length-bits_of c.self.inside.len (words_number c.self.inside.words.items)) ∙ ap length c.self.view_is
