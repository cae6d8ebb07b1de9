use Rattle.std.proofs.Common.{ap, arith}
use Rattle.pthash.specs.PositionLaws.{len-set_of}
use Rattle.word_bits.specs.Bits.{is_set}
use Rattle.pilot_search.specs.Table.{Table}
use Rattle.pilot_search.proofs.occupancy.Occupancy.count.Goals as goal

pub returns-clause-bound : goal.returns-clause-bound
returns-clause-bound c =
    omega (arith, c.self.invariant.counted, len-set_of c.self.inside.size (is_set c.self.inside.words.items 0), ap (λ (t : Table). t.size) c.self.view_is)
