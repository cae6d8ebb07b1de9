use Rattle.std.proofs.Common.{◌≡◌, true, refl, sym, subst}
use Rattle.pthash.specs.Search.{is_distinct}
use Rattle.turn_search.proofs.table.TurnTable.settle.Goals as goal

pub settle_with-requires-clause-candidate : goal.settle_with-requires-clause-candidate
settle_with-requires-clause-candidate g c κs within = c.in-Found.ensures.rank c.in-Found.candidate refl

pub settle_with-requires-clause-spread : goal.settle_with-requires-clause-spread
settle_with-requires-clause-spread g c κs within =
    let found = c.in-Found.ensures.found c.in-Found.candidate refl in
    let positions = c.in-Found.ensures.positions c.in-Found.candidate refl in
    record {
      below = found.below;
      positions_are = positions;
      distinct = subst (λ ps. is_distinct ps ≡ true) (sym positions) found.distinct;
    }
