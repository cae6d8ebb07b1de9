use Rattle.std.proofs.Common.{ap, arith, sym, ◌∙◌}
use Rattle.std.specs.FinSet.{contains}
use Rattle.pthash.specs.PositionLaws.{contains-set_of_below}
use Rattle.word_bits.specs.Bits.{is_set}
use Rattle.pilot_search.specs.Table.{Table}
use Rattle.pilot_search.proofs.occupancy.Occupancy.contains.Goals as goal

pub returns : goal.returns
returns c =
    c.is_set.ensures
    ∙ ap (λ ws. is_set ws 0 c.args.position) c.deref.ensures.value
    ∙ sym (contains-set_of_below c.self.inside.size (is_set c.self.inside.words.items 0) c.args.position
    (omega (arith, ap (λ (t : Table). t.size) c.self.view_is)))
    ∙ ap (λ (t : Table). contains t.taken c.args.position) c.self.view_is
