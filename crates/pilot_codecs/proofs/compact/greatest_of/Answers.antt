use Rattle.std.proofs.Common.{◌≡◌, ℕ, max, take, get_or, sym, ap, ◌∙◌}
use Rattle.pilot_codecs.specs.Spelling.{greatest}
use Rattle.pilot_codecs.proofs.FieldLemmas.{greatest-nil}
use Rattle.pilot_codecs.proofs.CompactLemmas.{ord_max_is, greatest-more}
use Rattle.pilot_codecs.proofs.compact.greatest_of.Goals as goal

pub loop-value-init : goal.loop-value-init
loop-value-init c = sym greatest-nil

pub loop-value-preserved : goal.loop-value-preserved
loop-value-preserved c =
    let vs = c.args.values.now in
    let i = c.loop-value.value-index in
    let so_far : c.loop-value.most ≡ greatest (take i vs) = c.loop-value.invariant in
    c.max-most.ensures ∙ ord_max_is c.loop-value.most (get_or vs i 0) ∙ ap (λ (x : ℕ). max x (get_or vs i 0)) so_far
    ∙ sym (greatest-more vs i c.loop-value-test.true)
