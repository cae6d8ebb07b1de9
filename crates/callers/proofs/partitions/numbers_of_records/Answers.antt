use Rattle.std.proofs.Common.{Ok}
use Rattle.bucket_map.specs.ShapeData.{shape_data}
use Rattle.part_function.specs.Answers.{IsPartAnswer}
use Rattle.callers.proofs.OwnNumbers.{some_key, numbers-count, numbers-distinct, numbers-below}
use Rattle.callers.proofs.partitions.numbers_of_records.Goals as goal

pub numbers_in-requires : goal.numbers_in-requires
numbers_in-requires g c =
    some_key c.args.shape c.args.limit c.args.seed c.args.records.now c.in-Ok.part (rw c.in-Ok.is at c.in_ok-part.ensures)

pub returns-in_ok-numbers-in-Ok-clause-len : goal.returns-in_ok-numbers-in-Ok-clause-len
returns-in_ok-numbers-in-Ok-clause-len g c = numbers-count _ c.args.records.now c.in_ok-numbers-in-Ok.numbers.items c.in_ok-numbers-in-Ok.ensures

pub returns-in_ok-numbers-in-Ok-clause-distinct : goal.returns-in_ok-numbers-in-Ok-clause-distinct
returns-in_ok-numbers-in-Ok-clause-distinct g c =
    let answer : IsPartAnswer (shape_data c.args.shape) c.args.limit c.args.seed c.args.records.now (Ok c.in-Ok.part) =
    rw c.in-Ok.is at c.in_ok-part.ensures in
    numbers-distinct c.args.shape c.args.limit c.args.seed c.args.records.now c.in-Ok.part c.in_ok-numbers-in-Ok.numbers.items answer
    c.in_ok-numbers-in-Ok.ensures

pub returns-in_ok-numbers-in-Ok-clause-below : goal.returns-in_ok-numbers-in-Ok-clause-below
returns-in_ok-numbers-in-Ok-clause-below g c =
    let answer : IsPartAnswer (shape_data c.args.shape) c.args.limit c.args.seed c.args.records.now (Ok c.in-Ok.part) =
    rw c.in-Ok.is at c.in_ok-part.ensures in
    numbers-below c.args.shape c.args.limit c.args.seed c.args.records.now c.in-Ok.part c.in_ok-numbers-in-Ok.numbers.items answer
    c.in_ok-numbers-in-Ok.ensures
