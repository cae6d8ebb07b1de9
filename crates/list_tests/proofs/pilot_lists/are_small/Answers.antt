use Rattle.std.proofs.Common.{length, inl, inr, arith}
use Rattle.std.proofs.lemmas.Bool.{cases_lt}
use Rattle.std.proofs.lemmas.List.{get_or_past}
use Rattle.list_tests.proofs.pilot_lists.are_small.Goals as goal

pub returns : goal.returns
returns c = λ _ i.
    let vs = c.args.values.now in
    elim (cases_lt i (length vs)) [
      | inl lt ↦ c.loop-value.invariant i (omega (arith, lt, c.loop-value-test.false))
      | inr le ↦ omega (arith, get_or_past vs i 0 le)
    ]
