use Rattle.std.proofs.Common.{refl}
use Rattle.turn_search.proofs.CallerLemmas.{IsOfRank-after_load}
use Rattle.build_tests.proofs.turn_tables.two_buckets_get_their_pilots_in_turn.Goals as goal

pub take_turn-requires-clause-rank : goal.take_turn-requires-clause-rank
take_turn-requires-clause-rank g c = c.in-Found-speculate.ensures.rank c.in-Found-speculate.own refl

pub take_turn-requires-in-loop-last_closes-clause-rank : goal.take_turn-requires-in-loop-last_closes-clause-rank
take_turn-requires-in-loop-last_closes-clause-rank g c =
    IsOfRank-after_load c.speculate.new.pass.view c.look.new.pass.view _ c.in-Found.early c.look.ensures.view
    (c.in-Found.ensures.rank c.in-Found.early refl)
