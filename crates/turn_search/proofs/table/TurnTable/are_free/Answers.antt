use Rattle.std.proofs.Common.{ℕ, ◌++◌, ◌∷◌, [], ap, sym, ◌∙◌, take, arith}
use Rattle.std.specs.List.{list_all}
use Rattle.pilot_search.specs.Table.{positions_under}
use Rattle.turn_search.specs.Looks.{found_taken, found_free}
use Rattle.turn_search.specs.Passes.{new_looks}
use Rattle.turn_search.proofs.MoreLooks.{looked_on, looked_once, look_taken}
use Rattle.turn_search.proofs.Looked.{positions_more, free_more, not_all_free}
use Rattle.turn_search.proofs.table.TurnTable.are_free.Goals as goal

pub returns-then-not-is_free-clause-taken : goal.returns-then-not-is_free-clause-taken
returns-then-not-is_free-clause-taken c = λ _.
    let before = c.loop-member.pass.view in
    let after = c.is_free.new.pass.view in
    not_all_free (found_taken after.looks) c.args.hash c.args.size.now c.args.members.now c.loop-member.member-index (omega arith)
    (ap (found_taken after.looks) (sym c.remainder.ensures.value) ∙ look_taken before after c.remainder.result c.if-not-is_free.ensures.look)

pub loop-member-preserved : goal.loop-member-preserved
loop-member-preserved c =
    let first = c.args.pass.now.view in
    let before = c.loop-member.pass.view in
    let after = c.is_free.new.pass.view in
    let i : ℕ = c.loop-member.member-index in
    let p = c.remainder.result in
    let look = c.if-not-is_free.ensures.look in
    let hash = c.args.hash in
    let size = c.args.size.now in
    let members = c.args.members.now in (
      c.if-not-is_free.ensures.pass,
      looked_on first before after c.loop-member.invariant.1 (looked_once before after p _ look),
      ap (list_all (found_free (new_looks first after)))
          (positions_more hash size members i (omega arith)
          ∙ ap (λ q. positions_under hash size (take i members) ++ q ∷ []) (sym c.remainder.ensures.value))
          ∙ free_more first before after (positions_under hash size (take i members)) p c.loop-member.invariant.1 look c.loop-member.invariant.2,
    )
