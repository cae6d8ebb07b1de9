use Rattle.std.proofs.Common.{ℕ, ◌%◌, ◌^◌, refl, ap, ◌∙◌, arith}
use Rattle.bit_vector.proofs.ReadLemmas.{bits_joined}
use Rattle.bit_vector.proofs.words.bits_at.Goals as goal

pub returns : goal.returns
returns c =
    c.low_bits.ensures ∙ ap (λ (n : ℕ). n % 2 ^ c.args.width) c.joined.ensures
    ∙ bits_joined c.args.words.now c.args.at c.args.width _ (λ i. omega (arith, c.type_inv.words i)) (omega arith) (omega arith) (omega arith) refl
