use Rattle.std.proofs.Common.{refl, sym, subst}
use Rattle.turn_search.specs.Passes.{IsPassOf}
use Rattle.build_tests.proofs.turn_tables.a_bucket_that_has_no_pilot_stops_the_search.Goals.{then-not-first_closes+else-assert_eq-4, else-not-first_closes}
use Rattle.build_tests.proofs.turn_tables.a_bucket_that_has_no_pilot_stops_the_search.Goals.{then-first_closes, else-first_closes}
use Rattle.build_tests.proofs.turn_tables.a_bucket_that_has_no_pilot_stops_the_search.Goals as goal

pub take_turn-requires-clause-rank : goal.take_turn-requires-clause-rank
take_turn-requires-clause-rank g c = c.in-Found-speculate.ensures.rank c.in-Found-speculate.own refl

pub stop_at_turn-requires-clause-rank : goal.stop_at_turn-requires-clause-rank
stop_at_turn-requires-clause-rank g c = c.in-Found.ensures.rank c.in-Found.early refl

pub close-ended-requires : goal.close-ended-requires
close-ended-requires g c =
    let second : IsPassOf c.in_ok-table.table c.if-not-first_closes.second =
    elim c.if-not-first_closes.branch [
      | then-not-first_closes+else-assert_eq-4 w ↦ subst (IsPassOf c.in_ok-table.table) (sym w.second-is) w.look.ensures.pass
      | else-not-first_closes w ↦ subst (IsPassOf c.in_ok-table.table) (sym w.second-is) c.stop_at_turn.ensures.pass
    ] in
    record {
      pass =
          elim c.if-first_closes.branch [
            | then-first_closes w ↦ subst (IsPassOf c.in_ok-table.table) (sym w.close-is) c.claim.ensures.pass
            | else-first_closes w ↦ subst (IsPassOf c.in_ok-table.table) (sym w.close-is) second
          ];
    }
