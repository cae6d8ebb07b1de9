use Rattle.std.proofs.Common.{ℕ, ◌/◌, ◌^◌, ap}
use Rattle.std.specs.Prelude.{bit_or}
use Rattle.bit_vector.proofs.ReadLemmas.{shl_twice}
use Rattle.bit_vector.proofs.words.joined.Goals as goal

pub returns : goal.returns
returns c = ap (λ (q : ℕ). bit_or (c.args.word / 2 ^ c.args.shift) q) (shl_twice c.args.above c.args.shift c.requires)
