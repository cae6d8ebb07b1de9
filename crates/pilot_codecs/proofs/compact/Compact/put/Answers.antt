use Rattle.std.proofs.Common.{◌≡◌, ℕ, ◌++◌, List, sym, ap, ◌∙◌}
use Rattle.std.specs.List.{flat_map}
use Rattle.elias_fano.specs.Spelling.{number}
use Rattle.elias_fano.proofs.CallerLemmas.{on_ok-map}
use Rattle.pilot_codecs.specs.Spelling.{compact_text}
use Rattle.pilot_codecs.proofs.CompactLemmas.{compact_text-values_in}
use Rattle.pilot_codecs.proofs.compact.Compact.put.Goals as goal

pub returns-clause-ok : goal.returns-clause-ok
returns-clause-ok c =
    let e = c.self.inside in
    let text : number e.width ++ flat_map number c.deref.result.now ≡ compact_text c.args.self.now =
    ap (λ (ws : List ℕ). number e.width ++ flat_map number ws) c.deref.ensures.value
    ∙ sym (compact_text-values_in e.count e.width e.words.items c.self.invariant) ∙ ap (λ (vs : List ℕ). compact_text vs) c.self.view_is in
    on_ok-map c.put_values.result _ _ (λ h. h ∙ ap (λ (t : List ℕ). c.args.out.now.items ++ t) text) c.put_values.ensures.ok
