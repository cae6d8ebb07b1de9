use Rattle.bit_vector.proofs.ReadLemmas.{low_mask}
use Rattle.bit_vector.proofs.words.low_bits.Goals as goal

pub returns-then-width-lt64 : goal.returns-then-width-lt64
returns-then-width-lt64 c = low_mask c.args.word c.args.width c.if-width-lt64.true
