use Rattle.std.proofs.Common.{◌≡◌, ◌<◌, List, length, sym, ap, ◌∙◌, subst}
use Rattle.std.specs.Prelude.{All}
use Rattle.pthash.specs.declared.Record.{Record}
use Rattle.hem_build.proofs.Gathering.{held_in_each, gathered_of}
use Rattle.hem_build.specs.Gathering.{gathered}
use Rattle.hem_build.proofs.pieces.Pieces.gather.Goals as goal

pub count_among-requires : goal.count_among-requires
count_among-requires c =
    subst (λ (ps : List (List (List Record))). All (λ piece. c.args.number < length piece) ps) (sym c.deref.ensures.value)
    (held_in_each c.self.inside.list.items c.self.inside.parts c.args.number c.args.self.now c.self.invariant c.self.view_is c.requires)

pub gather_into-requires-clause-held : goal.gather_into-requires-clause-held
gather_into-requires-clause-held c =
    subst (λ (ps : List (List (List Record))). All (λ piece. c.args.number < length piece) ps) (sym c.deref-2.ensures.value)
    (held_in_each c.self.inside.list.items c.self.inside.parts c.args.number c.args.self.now c.self.invariant c.self.view_is c.requires)

pub returns : goal.returns
returns c =
    subst (λ (rs : List Record). c.gather_into.new.room.items ≡ rs)
    (ap (λ (ps : List (List (List Record))). gathered ps c.args.number) c.deref-2.ensures.value
    ∙ gathered_of c.self.inside.list.items c.self.inside.parts c.args.number c.args.self.now c.self.view_is c.requires)
    c.in_ok-gather_into.ensures
