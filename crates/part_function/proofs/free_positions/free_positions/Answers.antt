use Rattle.std.proofs.Common.{arith, subst, sym}
use Rattle.std.specs.FinSet.{contains}
use Rattle.part_function.proofs.FreeWalk.{AreFreeBelow, first_free, one_more_free}
use Rattle.part_function.proofs.free_positions.free_positions.Goals as goal

pub loop-position-init : goal.loop-position-init
loop-position-init c =
    let is_taken = contains c.args.occupied.now.taken in
    subst (AreFreeBelow is_taken c.args.n c.next_free-position.result) (sym c.in_ok-free.ensures.items)
    (first_free is_taken c.args.n c.next_free-position.result c.next_free-position.ensures)

pub loop-position-preserved : goal.loop-position-preserved
loop-position-preserved c =
    let is_taken = contains c.args.occupied.now.taken in
    let next = c.next_free-position-in-loop-position.result in
    subst (AreFreeBelow is_taken c.args.n next) (sym c.in_ok-push.ensures.items)
    (one_more_free is_taken c.args.n c.loop-position.position next c.loop-position.free.items (omega arith) c.loop-position.invariant
    c.next_free-position-in-loop-position.ensures)
