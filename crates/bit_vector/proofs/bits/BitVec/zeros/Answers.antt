use Rattle.std.proofs.Common.{ℕ, List, ap, ◌∙◌, arith}
use Rattle.bit_vector.specs.Bits.{bits_of, words_number}
use Rattle.bit_vector.proofs.SetLemmas.{zeros_packed, zeros_bits}
use Rattle.bit_vector.proofs.bits.BitVec.zeros.Goals as goal

pub invariant_of-result : goal.invariant_of-result
invariant_of-result c = (rw c.in_ok-words.ensures (zeros_packed c.div_ceil.result c.args.len (omega (arith, c.div_ceil.ensures))), c.requires)

pub returns : goal.returns
returns c = ap (λ (ws : List ℕ). bits_of c.args.len (words_number ws)) c.in_ok-words.ensures ∙ zeros_bits _ c.args.len
