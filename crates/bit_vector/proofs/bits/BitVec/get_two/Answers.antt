use Rattle.std.proofs.Common.{◌≡◌, ℕ, ◌+◌, ◌*◌, take, drop, ap, ◌∙◌, arith}
use Rattle.bit_vector.specs.Bits.{number_of}
use Rattle.bit_vector.proofs.ViewLemmas.{two_fields}
use Rattle.bit_vector.proofs.bits.BitVec.get_two.Goals as goal

pub returns-clause-first : goal.returns-clause-first
returns-clause-first c =
    let w = c.args.width in
    let two : 2 * w ≡ w + w = omega arith in
    c.low_bits.ensures
    ∙ (two_fields c.args.self.now c.args.at w c.get_bits-both.result (omega (arith, c.requires.within))
    (c.get_bits-both.ensures ∙ ap (λ (k : ℕ). number_of (take k (drop c.args.at c.args.self.now))) two)).0

pub returns-clause-second : goal.returns-clause-second
returns-clause-second c =
    let w = c.args.width in
    let two : 2 * w ≡ w + w = omega arith in
    (two_fields c.args.self.now c.args.at w c.get_bits-both.result (omega (arith, c.requires.within))
    (c.get_bits-both.ensures ∙ ap (λ (k : ℕ). number_of (take k (drop c.args.at c.args.self.now))) two)).1
