use Rattle.std.proofs.Common.{◌≡◌, ℕ, List, length, sym, subst, ap, ◌∙◌, arith}
use Rattle.elias_fano.specs.Spelling.{IsRising}
use Rattle.pilot_codecs.specs.Spelling.{sums_from}
use Rattle.pilot_codecs.specs.Reading.{steps_from}
use Rattle.pilot_codecs.proofs.SumLemmas.{length-sums_from, rises-sums_from, IsRising-sums_from, steps_from-sums_from}
use Rattle.pilot_codecs.proofs.sums.Sums.encode.Goals as goal

pub build-requires-clause-rising : goal.build-requires-clause-rising
build-requires-clause-rising c = rw (c.deref.ensures.value, c.in_ok-sums.ensures) (rises-sums_from 0 c.args.values.now)

pub build-requires-clause-few : goal.build-requires-clause-few
build-requires-clause-few c = omega (arith, ap length (c.deref.ensures.value ∙ c.in_ok-sums.ensures), length-sums_from 0 c.args.values.now, c.requires.few)

pub returns : goal.returns
returns c = ap (λ (ss : List ℕ). steps_from 0 ss) (c.in_ok-list.ensures ∙ c.deref.ensures.value ∙ c.in_ok-sums.ensures)
    ∙ steps_from-sums_from 0 c.args.values.now

pub invariant_of-result : goal.invariant_of-result
invariant_of-result c =
    let made : c.in_ok-list.list ≡ sums_from 0 c.args.values.now = c.in_ok-list.ensures ∙ c.deref.ensures.value ∙ c.in_ok-sums.ensures in
    subst (λ (ss : List ℕ). IsRising ss) (sym made) (IsRising-sums_from c.args.values.now c.requires.small c.requires.few)
