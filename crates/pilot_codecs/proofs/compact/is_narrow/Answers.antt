use Rattle.std.proofs.Common.{arith}
use Rattle.std.proofs.lemmas.Bool.{leb-true}
use Rattle.std.proofs.lemmas.Nat.{one_shl}
use Rattle.pilot_codecs.proofs.compact.is_narrow.Goals as goal

pub returns : goal.returns
returns c = λ t. omega (arith, leb-true _ _ t, one_shl c.args.width 64 (omega arith))
