use Rattle.std.proofs.Common.{arith}
use Rattle.bit_vector.proofs.WordOnes.{one_among}
use Rattle.bit_vector.proofs.samples.first_one.Goals as goal

pub returns-then-word-ne0 : goal.returns-then-word-ne0
returns-then-word-ne0 c = one_among c.args.words.now c.loop-at.at c.lowest_in.result 0 _ _ (λ i. omega (arith, c.type_inv.words i)) c.loop-at-test.true
    c.lowest_in.ensures.within c.lowest_in.ensures.place (omega (arith, c.loop-at.invariant)) (omega (arith, c.from.ensures))
