use Rattle.std.proofs.Common.{ℕ, ◌*◌, ◌^◌, take, drop, ap, ◌∙◌, arith}
use Rattle.std.proofs.lemmas.Nat.{mul-le}
use Rattle.bit_vector.specs.Bits.{number_of}
use Rattle.elias_fano.proofs.parts.low_of.Goals as goal

pub overflow_mul-i : goal.overflow_mul-i
overflow_mul-i c = omega (arith, mul-le c.args.i c.from.result (2 ^ 36) 63 c.requires.few (omega (arith, c.from.ensures, c.requires.wide)))

pub get_bits-requires-clause-within : goal.get_bits-requires-clause-within
get_bits-requires-clause-within c = omega (arith, ap (λ (x : ℕ). c.args.i * x) c.from.ensures, c.requires.within)

pub returns : goal.returns
returns c = c.get_bits.ensures ∙ ap (λ (x : ℕ). number_of (take c.args.width (drop (c.args.i * x) c.args.low.now))) c.from.ensures
