use Rattle.std.proofs.Common.{sym, subst, arith}
use Rattle.std.proofs.lemmas.List.Elements.{All-get_or}
use Rattle.pilot_search.specs.Rounds.{IsTested}
use Rattle.pilot_search.proofs.rounds.tested_to.Goals as goal

pub returns-then-place-shares : goal.returns-then-place-shares
returns-then-place-shares c = λ plan table tested known.
    let share = c.index-shares-place.result in
    c.first.ensures plan table
    (subst (IsTested plan table) (sym c.index-shares-place.is) (All-get_or (IsTested plan table) c.args.shares.now c.args.place share (omega arith) tested))
    known
