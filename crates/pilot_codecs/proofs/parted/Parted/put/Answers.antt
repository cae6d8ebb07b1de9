use Rattle.std.proofs.Common.{◌≡◌, ℕ, ◌++◌, List, length, sym, ap, ◌∙◌}
use Rattle.std.specs.List.{flat_map}
use Rattle.pilot_codecs.specs.Spelling.{compact_text, groups_for, groups_of, parted_text}
use Rattle.elias_fano.proofs.CallerLemmas.{on_ok-map}
use Rattle.pilot_codecs.proofs.parted.Parted.put.Goals as goal

pub returns-clause-ok : goal.returns-clause-ok
unfolding parted_text
returns-clause-ok c =
    let gs = c.self.inside.groups in
    let vs = flat_map (λ g. g) gs in
    let cut : groups_of (groups_for (length vs)) vs ≡ gs = ap (λ (k : ℕ). groups_of (groups_for k) vs) c.self.invariant.count_is
    ∙ c.self.invariant.cut in
    let text : flat_map compact_text gs ≡ parted_text c.args.self.now = ap (λ (xs : List (List ℕ)). flat_map compact_text xs) (sym cut)
    ∙ ap (λ (xs : List ℕ). parted_text xs) c.self.view_is in
    on_ok-map c.put.result _ _ (λ h. h ∙ ap (λ (t : List ℕ). c.args.out.now.items ++ t) text) c.put.ensures.ok
