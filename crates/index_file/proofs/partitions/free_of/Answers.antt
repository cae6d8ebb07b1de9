use Rattle.std.proofs.Common.{drop, arith}
use Rattle.std.proofs.lemmas.Result.{err_from_is_err_and}
use Rattle.index_file.proofs.ListSteps.{free_err, free_no, free_yes}
use Rattle.index_file.proofs.partitions.free_of.Goals as goal

pub returns-in_err-free-clause-value : goal.returns-in_err-free-clause-value
returns-in_err-free-clause-value c =
    let p = err_from_is_err_and c.from_residual.result c.from_residual.ensures.1 in
    rw (p.1, p.2) (free_err c.args.bytes.now c.args.number c.args.n c.args.size c.args.at c.in_err-free.field-0.0 c.requires.within
    c.in_err-free.ensures.exact)

pub returns-then-place-size-clause-value : goal.returns-then-place-size-clause-value
returns-then-place-size-clause-value c =
    let bytes = c.args.bytes.now in
    let count = c.in_ok-free.ensures.found.count_is in
    free_no bytes c.args.number c.args.n c.args.size c.args.at c.in_ok-free.free (drop c.in_ok-free.next bytes) c.below-place.result
    c.requires.within c.in_ok-free.ensures.exact c.below-place.ensures (omega (arith, count, c.if-place-size.true))

pub returns-clause-value : goal.returns-clause-value
returns-clause-value c =
    let bytes = c.args.bytes.now in
    let count = c.in_ok-free.ensures.found.count_is in
    free_yes bytes c.args.number c.args.n c.args.size c.args.at c.in_ok-free.free (drop c.in_ok-free.next bytes) c.below-place.result
    c.requires.within c.in_ok-free.ensures.exact c.below-place.ensures (omega (arith, count, c.if-place-size.false))
