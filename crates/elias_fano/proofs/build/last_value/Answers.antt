use Rattle.std.proofs.Common.{sym, arith}
use Rattle.elias_fano.proofs.ValueLemmas.{last_of-is}
use Rattle.elias_fano.proofs.BuildLemmas.{last_of-none}
use Rattle.elias_fano.proofs.build.last_value.Goals as goal

pub returns-in-empty : goal.returns-in-empty
returns-in-empty c = sym (last_of-none c.args.values.now (omega (arith, c.in-empty.len_below)))

pub returns-in-len1-up : goal.returns-in-len1-up
returns-in-len1-up c = sym (last_of-is 0 c.args.values.now (omega (arith, c.in-len1-up.len_at_least)))
