use Rattle.std.proofs.Common.{◌≡◌, ℕ, ◌++◌, List, Bool, sym, ap, ◌∙◌}
use Rattle.elias_fano.specs.Spelling.{number, run, ef_text}
use Rattle.elias_fano.proofs.TextLemmas.{ef_text-values}
use Rattle.elias_fano.proofs.BuildLemmas.{on_ok-map}
use Rattle.elias_fano.proofs.list.EliasFano.write.Goals as goal

pub returns-else-is_err-clause-ok : goal.returns-else-is_err-clause-ok
returns-else-is_err-clause-ok c =
    let e = c.self.inside in
    let text : number e.last ++ run e.low ++ run c.bits.result.now ≡ ef_text c.args.self.now =
    ap (λ (bs : List Bool). number e.last ++ run e.low ++ run bs) c.bits.ensures ∙ sym (ef_text-values e.count e.last e.width e.low e.high c.self.invariant)
    ∙ ap (λ (vs : List ℕ). ef_text vs) c.self.view_is in
    on_ok-map c.put_list-written.result _ _ (λ h. h ∙ ap (λ (t : List ℕ). c.args.out.now.items ++ t) text) c.put_list-written.ensures.ok
