use Rattle.std.proofs.Common.{◌≡◌, ℕ, ◌++◌, List, length, sym, ap, ◌∙◌}
use Rattle.std.specs.List.{flat_map}
use Rattle.elias_fano.specs.Spelling.{number}
use Rattle.pilot_codecs.specs.Spelling.{compact_text, dict_text}
use Rattle.pilot_codecs.proofs.DictLaws.{dict_text-looked_up}
use Rattle.elias_fano.proofs.CallerLemmas.{on_ok-map}
use Rattle.pilot_codecs.proofs.dict.Dict.put.Goals as goal

pub returns-clause-ok : goal.returns-clause-ok
returns-clause-ok c =
    let ds = c.self.inside.entries.items in
    let ps = c.self.inside.places in
    let text : number (length c.deref.result.now) ++ flat_map number c.deref.result.now ++ compact_text ps ≡ dict_text c.args.self.now =
    ap (λ (es : List ℕ). number (length es) ++ flat_map number es ++ compact_text ps) c.deref.ensures.value
    ∙ sym (dict_text-looked_up ds ps c.self.invariant) ∙ ap (λ (vs : List ℕ). dict_text vs) c.self.view_is in
    on_ok-map c.put_entries.result _ _ (λ h. h ∙ ap (λ (t : List ℕ). c.args.out.now.items ++ t) text) c.put_entries.ensures.ok
