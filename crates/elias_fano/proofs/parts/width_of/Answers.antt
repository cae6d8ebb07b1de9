use Rattle.std.proofs.Common.{sym, arith}
use Rattle.elias_fano.proofs.WidthLemmas.{low_width-none, low_width-small, low_width-is, few_high}
use Rattle.elias_fano.proofs.parts.width_of.Goals as goal
use Rattle.elias_fano.proofs.parts.width_of.Goals.{then-count-eq0-via-then-count-eq0, then-count-eq0-via-else-count-eq0+then-last-count-eq0}

pub returns-then-count-eq0-clause-width : goal.returns-then-count-eq0-clause-width
returns-then-count-eq0-clause-width c = sym (elim c.then-count-eq0.branch [
  | then-count-eq0-via-then-count-eq0 w ↦ low_width-none c.args.count c.args.last w.if-count-eq0.true
  | then-count-eq0-via-else-count-eq0+then-last-count-eq0 w ↦ low_width-small c.args.count c.args.last w.if-last-count-eq0.true
])

pub returns-clause-width : goal.returns-clause-width
returns-clause-width c = sym (low_width-is c.args.count c.args.last c.ilog2.result c.if-count-eq0.false
    (omega arith) c.if-last-count-eq0.false c.ilog2.ensures.power_le c.ilog2.ensures.next_power_gt)

pub returns-clause-few_high : goal.returns-clause-few_high
returns-clause-few_high c = λ some. few_high c.args.count c.args.last c.ilog2.result some c.ilog2.ensures.next_power_gt
