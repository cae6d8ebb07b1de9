use Rattle.std.proofs.Common.{ℕ, List, sym, ◌∙◌, subst}
use Rattle.std.specs.List.Sorted.{IsPermutation}
use Rattle.pilot_search.proofs.Sorting.{is_distinct-permutation}
use Rattle.pilot_search.proofs.repeats.are_sorted_apart.Goals as goal

pub returns : goal.returns
returns c =
    let members : List ℕ = c.args.members.now in
    let sorted : List ℕ = c.sort_unstable.new.self in
    let moved : IsPermutation members sorted =
    subst (λ (xs : List ℕ). IsPermutation xs sorted) c.copy_from_slice.ensures.after c.sort_unstable.ensures.permutation in
    c.are_rising.ensures ∙ sym (is_distinct-permutation members sorted moved)
