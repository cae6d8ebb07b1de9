use Rattle.std.proofs.Common.{◌≡◌, ℕ, ◌/◌, ◌%◌, ◌^◌, List, Bool, false, eqb, length, get_or, sym, ap, ◌∙◌, arith}
use Rattle.bit_vector.specs.Bits.{words_number}
use Rattle.bit_vector.proofs.BitLemmas.{length-bits_of, get_or-bits_of}
use Rattle.bit_vector.proofs.bits.BitVec.get.Goals as goal

pub bits_at-requires-clause-within : goal.bits_at-requires-clause-within
bits_at-requires-clause-within c =
    let n : length c.args.self.now ≡ c.self.inside.len = sym (ap length c.self.view_is)
    ∙ length-bits_of c.self.inside.len (words_number c.self.inside.words.items) in
    omega (arith, n, c.self.invariant.0.count, ap length c.deref.ensures.value)

pub returns : goal.returns
returns c =
    let ws = c.self.inside.words.items in
    let n : length c.args.self.now ≡ c.self.inside.len = sym (ap length c.self.view_is) ∙ length-bits_of c.self.inside.len (words_number ws) in
    ap (λ (x : ℕ). eqb x 1) (c.bits_at.ensures ∙ ap (λ (xs : List ℕ). words_number xs / 2 ^ c.args.at % 2) c.deref.ensures.value)
    ∙ sym (get_or-bits_of c.args.at c.self.inside.len (words_number ws) (omega (arith, n)))
    ∙ ap (λ (bs : List Bool). get_or bs c.args.at false) c.self.view_is
