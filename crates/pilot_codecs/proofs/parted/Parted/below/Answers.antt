use Rattle.std.proofs.Common.{ℕ, List, ap, ◌∙◌, arith}
use Rattle.elias_fano.specs.Values.{below_len}
use Rattle.pilot_codecs.proofs.parted.Parted.below.Goals as goal

pub below-requires : goal.below-requires
below-requires c = omega (arith, c.self.invariant.count_is, c.self.invariant.few)

pub returns : goal.returns
returns c = c.below.ensures ∙ ap (λ (vs : List ℕ). below_len c.args.bound vs) c.self.view_is
