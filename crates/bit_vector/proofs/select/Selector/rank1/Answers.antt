use Rattle.std.proofs.Common.{◌%◌, ◌^◌, ℕ, List, Bool, length, take, sym, ap, ◌∙◌, arith}
use Rattle.std.specs.Int.RustNames.{count_ones}
use Rattle.bit_vector.specs.Bits.{words_number, ones}
use Rattle.bit_vector.proofs.SampleLemmas.{length-packed, words_number-packed, ones-take}
use Rattle.bit_vector.proofs.select.Selector.rank1.Goals as goal

pub ones_below-requires-clause-within : goal.ones_below-requires-clause-within
ones_below-requires-clause-within c = omega (arith, ap length c.self.view_is, ap length c.words.ensures, length-packed c.self.inside.bits)

pub ones_below-requires-clause-most : goal.ones_below-requires-clause-most
ones_below-requires-clause-most c = omega (arith, ap length c.words.ensures, length-packed c.self.inside.bits, c.self.invariant.2)

pub returns : goal.returns
returns c =
    let bits = c.self.inside.bits in
    c.ones_below.ensures
    ∙ ap (λ (ws : List ℕ). count_ones (words_number ws % 2 ^ c.args.at)) c.words.ensures
    ∙ ap (λ (n : ℕ). count_ones (n % 2 ^ c.args.at)) (words_number-packed bits)
    ∙ sym (ones-take bits c.args.at (omega (arith, ap length c.self.view_is)))
    ∙ ap (λ (bs : List Bool). ones (take c.args.at bs)) c.self.view_is
