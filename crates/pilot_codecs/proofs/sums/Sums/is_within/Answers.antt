use Rattle.std.proofs.Common.{◌≡◌, ℕ, List, length, sym, subst, ◌∙◌}
use Rattle.std.proofs.lemmas.Bool.{eqb-true}
use Rattle.elias_fano.specs.Values.{below_len}
use Rattle.pilot_codecs.proofs.BelowLemmas.{steps_within}
use Rattle.pilot_codecs.proofs.sums.Sums.is_within.Goals as goal

pub returns : goal.returns
returns c = λ t. subst (λ (vs : List ℕ). below_len c.args.bound vs ≡ length vs) c.self.view_is
    (steps_within c.args.bound c.self.inside.list (sym c.below.ensures ∙ eqb-true _ _ t ∙ c.len.ensures.value))
