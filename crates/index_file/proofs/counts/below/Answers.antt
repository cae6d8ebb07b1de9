use Rattle.std.proofs.Common.{arith}
use Rattle.elias_fano.proofs.CallerLemmas.{below_len-le, below_len-most}
use Rattle.pilot_codecs.proofs.CallerLemmas.{below_more}
use Rattle.index_file.proofs.counts.below.Goals as goal

pub returns-then-numbers-i : goal.returns-then-numbers-i
returns-then-numbers-i c = omega (arith, below_len-le c.args.bound c.args.numbers.now c.loop-i.i (omega arith))

pub loop-i-preserved : goal.loop-i-preserved
loop-i-preserved c = below_more c.args.bound c.args.numbers.now c.loop-i.i c.loop-i.invariant (omega arith) (omega arith)

pub returns : goal.returns
returns c = omega (arith, below_len-most c.args.bound c.args.numbers.now)
