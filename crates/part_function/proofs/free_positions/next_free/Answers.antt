use Rattle.std.proofs.Common.{subst, sym}
use Rattle.std.specs.FinSet.{contains}
use Rattle.part_function.specs.Walk.{IsNextFree}
use Rattle.part_function.proofs.FreeWalk.{run_taken, run_free}
use Rattle.part_function.proofs.free_positions.next_free.Goals as goal

pub returns-then-place-run-lt64 : goal.returns-then-place-run-lt64
returns-then-place-run-lt64 c =
    let is_taken = contains c.args.occupied.now.taken in
    subst (IsNextFree is_taken c.args.from c.args.end) (sym c.min.ensures)
    (run_free is_taken c.args.occupied.now.size c.args.from c.args.end c.loop-position.position c.word.result c.taken_run-run.result
    c.word.ensures c.taken_run-run.ensures c.requires.end c.loop-position-test.true c.if-place-run-lt64.true c.loop-position.invariant)

pub loop-position-preserved : goal.loop-position-preserved
loop-position-preserved c =
    run_taken (contains c.args.occupied.now.taken) c.args.occupied.now.size c.args.from c.args.end c.loop-position.position c.word.result c.taken_run-run.result
    c.word.ensures c.taken_run-run.ensures c.requires.end c.loop-position.invariant
