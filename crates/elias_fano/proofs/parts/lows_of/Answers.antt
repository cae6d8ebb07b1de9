use Rattle.std.proofs.Common.{ℕ, ◌*◌, ap, arith}
use Rattle.elias_fano.proofs.parts.lows_of.Goals as goal

pub get_two-requires-clause-within : goal.get_two-requires-clause-within
get_two-requires-clause-within c = omega (arith, ap (λ (x : ℕ). c.args.i * x) c.from.ensures, c.requires.within)
