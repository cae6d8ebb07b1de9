use Rattle.std.proofs.Common.{rules}
use Rattle.part_function.proofs.PlacedParts.{empty_answer, placed_answer, stuck_answer}
use Rattle.part_function.proofs.build.build_part.Goals as goal

pub returns-then-is_empty : goal.returns-then-is_empty
returns-then-is_empty g c =
    empty_answer c.args.shape c.args.limit c.args.seed c.args.records.now c.in_ok-empty.field-0 (search rules) c.in_ok-empty.ensures

pub returns-in_ok-placed_part-in-Ok : goal.returns-in_ok-placed_part-in-Ok
returns-in_ok-placed_part-in-Ok g c =
    placed_answer c.args.shape c.args.limit c.args.seed c.args.records.now c.in_ok-plan.plan c.in_ok-placed_part-in-Ok.field-0
    c.in_ok-plan.ensures c.in_ok-placed_part-in-Ok.ensures

pub returns-in-Err : goal.returns-in-Err
returns-in-Err g c =
    stuck_answer c.args.shape c.args.limit c.args.seed c.args.records.now c.in_ok-plan.plan c.in-Err.stuck (search rules)
    c.in_ok-plan.ensures (search rules)
