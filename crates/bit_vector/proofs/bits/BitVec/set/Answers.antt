use Rattle.std.proofs.Common.{◌≡◌, Bool, List, true, length, set, sym, ap, ◌∙◌, arith}
use Rattle.bit_vector.specs.Bits.{words_number}
use Rattle.bit_vector.proofs.BitLemmas.{length-bits_of}
use Rattle.bit_vector.proofs.SetLemmas.{bit_written}
use Rattle.bit_vector.proofs.bits.BitVec.set.Goals as goal

pub index_mut-requires : goal.index_mut-requires
index_mut-requires c =
    let n : length c.args.self.now ≡ c.self.inside.len = sym (ap length c.self.view_is)
    ∙ length-bits_of c.self.inside.len (words_number c.self.inside.words.items) in
    omega (arith, n, c.requires, c.self.invariant.0.count)

pub invariant_of-self : goal.invariant_of-self
invariant_of-self c =
    let n : length c.args.self.now ≡ c.self.inside.len = sym (ap length c.self.view_is)
    ∙ length-bits_of c.self.inside.len (words_number c.self.inside.words.items) in
    let p = bit_written c.self.inside.words.items c.self.inside.len c.args.at c.index_mut.result.now c.self.invariant.0 (omega (
      arith,
      n,
      c.requires,
    )) c.index_mut.ensures.value in
    (p.packed, c.self.invariant.1)

pub returns : goal.returns
returns c =
    let n : length c.args.self.now ≡ c.self.inside.len = sym (ap length c.self.view_is)
    ∙ length-bits_of c.self.inside.len (words_number c.self.inside.words.items) in
    let p = bit_written c.self.inside.words.items c.self.inside.len c.args.at c.index_mut.result.now c.self.invariant.0 (omega (
      arith,
      n,
      c.requires,
    )) c.index_mut.ensures.value in
    p.bits ∙ ap (λ (bs : List Bool). set bs c.args.at true) c.self.view_is
