use Rattle.std.proofs.Common.{ℕ, ap, ◌∙◌, take, arith}
use Rattle.std.specs.Prelude.{slice_index}
use Rattle.std.specs.List.{list_all}
use Rattle.std.proofs.lemmas.List.{take_more}
use Rattle.turn_search.specs.Looks.{found_free}
use Rattle.turn_search.specs.Passes.{new_looks}
use Rattle.turn_search.proofs.LookLemmas.{position_in_table}
use Rattle.turn_search.proofs.MoreLooks.{looked_on, looked_once}
use Rattle.turn_search.proofs.Looked.{free_more}
use Rattle.turn_search.proofs.table.TurnTable.are_still_free.Goals as goal

pub is_free-requires-clause-position : goal.is_free-requires-clause-position
is_free-requires-clause-position c =
    position_in_table c.args.self.now.plan c.args.rank c.args.pilot c.args.positions.now c.loop-position.position-index
    c.requires.size c.requires.positions (omega arith)

pub loop-position-preserved : goal.loop-position-preserved
loop-position-preserved c =
    let first = c.args.pass.now.view in
    let before = c.loop-position.pass.view in
    let after = c.is_free.new.pass.view in
    let i : ℕ = c.loop-position.position-index in
    let positions = c.args.positions.now in
    let p = slice_index positions i in
    let look = c.if-not-is_free.ensures.look in (
      c.if-not-is_free.ensures.pass,
      looked_on first before after c.loop-position.invariant.1 (looked_once before after p _ look),
      ap (list_all (found_free (new_looks first after))) (take_more positions i 0 (omega arith))
          ∙ free_more first before after (take i positions) p c.loop-position.invariant.1 look c.loop-position.invariant.2,
    )
