use Rattle.std.proofs.Common.{refl}
use Rattle.part_function.proofs.FreeWalk.{run_to_free, run_to_end}
use Rattle.part_function.proofs.free_positions.taken_run.Goals as goal

pub returns-then-free-gt0 : goal.returns-then-free-gt0
returns-then-free-gt0 c = run_to_free c.args.word c.args.place c.from.result c.ranges.word.fits c.if-free-gt0.true c.from.ensures

pub returns-else-free-gt0 : goal.returns-else-free-gt0
returns-else-free-gt0 c = run_to_end c.args.word c.args.place _ c.ranges.word.fits c.requires c.if-free-gt0.false refl
