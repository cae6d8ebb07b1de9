use Rattle.std.proofs.Common.{sym, arith}
use Rattle.pilot_codecs.proofs.FieldLemmas.{digits_of-none, digits_of-is}
use Rattle.pilot_codecs.proofs.compact.digits.Goals as goal

pub returns-then-n-eq0-clause-value : goal.returns-then-n-eq0-clause-value
returns-then-n-eq0-clause-value c = sym (digits_of-none c.args.n c.if-n-eq0.true)

pub returns-else-n-eq0-clause-value : goal.returns-else-n-eq0-clause-value
returns-else-n-eq0-clause-value c = sym (digits_of-is c.args.n c.ilog2.result (omega arith) c.ilog2.ensures.power_le c.ilog2.ensures.next_power_gt)
