use Rattle.std.proofs.Common.{◌≡◌, ℕ, ◌/◌, ◌%◌, ◌^◌, List, Bool, length, take, drop, sym, ap, ◌∙◌, arith}
use Rattle.bit_vector.specs.Bits.{words_number, number_of}
use Rattle.bit_vector.proofs.BitLemmas.{length-bits_of}
use Rattle.bit_vector.proofs.ViewLemmas.{bits_read}
use Rattle.bit_vector.proofs.bits.BitVec.get_bits.Goals as goal

pub bits_at-requires-clause-within : goal.bits_at-requires-clause-within
bits_at-requires-clause-within c =
    let n : length c.args.self.now ≡ c.self.inside.len = sym (ap length c.self.view_is)
    ∙ length-bits_of c.self.inside.len (words_number c.self.inside.words.items) in
    omega (arith, n, c.self.invariant.0.count, ap length c.deref.ensures.value)

pub returns : goal.returns
returns c =
    let ws = c.self.inside.words.items in
    let n : length c.args.self.now ≡ c.self.inside.len = sym (ap length c.self.view_is) ∙ length-bits_of c.self.inside.len (words_number ws) in
    c.bits_at.ensures
    ∙ ap (λ (xs : List ℕ). words_number xs / 2 ^ c.args.at % 2 ^ c.args.width) c.deref.ensures.value
    ∙ bits_read (words_number ws) c.self.inside.len c.args.at c.args.width (omega (arith, n))
    ∙ ap (λ (bs : List Bool). number_of (take c.args.width (drop c.args.at bs))) c.self.view_is
