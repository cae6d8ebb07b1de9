use Rattle.std.proofs.Common.{ℕ, List, ap, subst, sym, ◌∙◌}
use Rattle.elias_fano.specs.Values.{below_len}
use Rattle.pilot_codecs.specs.Parts.{values_in, IsCompact}
use Rattle.pilot_codecs.proofs.compact.Compact.below.Goals as goal

pub below_in-requires : goal.below_in-requires
below_in-requires c =
    let e = c.self.inside in
    subst (λ (ws : List ℕ). IsCompact e.count e.width ws) (sym c.deref.ensures.value) c.self.invariant

pub returns : goal.returns
returns c =
    let e = c.self.inside in
    c.below_in.ensures ∙ ap (λ (ws : List ℕ). below_len c.args.bound (values_in e.count e.width ws)) c.deref.ensures.value
    ∙ ap (λ (vs : List ℕ). below_len c.args.bound vs) c.self.view_is
