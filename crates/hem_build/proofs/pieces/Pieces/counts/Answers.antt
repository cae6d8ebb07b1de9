use Rattle.std.proofs.Common.{◌≤◌, List, length, sym, subst, rules}
use Rattle.std.specs.Prelude.{All}
use Rattle.pthash.specs.declared.Record.{Record}
use Rattle.hem_build.proofs.Gathering.{as_many_in_each}
use Rattle.hem_build.proofs.pieces.Pieces.counts.Goals as goal

pub add_all_counts-requires : goal.add_all_counts-requires
add_all_counts-requires c =
    subst (λ (ps : List (List (List Record))). All (λ piece. length c.as_mut_slice.result.now ≤ length piece) ps) (sym c.deref.ensures.value)
    (as_many_in_each c.self.inside.list.items c.self.inside.parts (length c.as_mut_slice.result.now) c.args.self.now c.self.invariant c.self.view_is
    (search rules))
