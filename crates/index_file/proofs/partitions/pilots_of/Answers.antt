use Rattle.std.proofs.Common.{drop, arith}
use Rattle.std.proofs.lemmas.Result.{err_from_is_err_and}
use Rattle.index_file.proofs.ListSteps.{pilots_err, pilots_no, pilots_yes}
use Rattle.index_file.proofs.partitions.pilots_of.Goals as goal

pub returns-in_err-pilots-clause-value : goal.returns-in_err-pilots-clause-value
returns-in_err-pilots-clause-value c =
    let p = err_from_is_err_and c.from_residual.result c.from_residual.ensures.1 in
    rw (p.1, p.2) (pilots_err c.args.bytes.now c.args.enc c.args.number c.args.buckets c.args.at c.in_err-pilots.field-0.0 c.requires.within
    c.in_err-pilots.ensures.exact)

pub returns-then-bucket-buckets-clause-value : goal.returns-then-bucket-buckets-clause-value
returns-then-bucket-buckets-clause-value c =
    let bytes = c.args.bytes.now in
    let count = c.in_ok-pilots.ensures.found.count_is in
    pilots_no bytes c.args.enc c.args.number c.args.buckets c.args.at c.in_ok-pilots.pilots.values (drop c.in_ok-pilots.next bytes) c.below-bucket.result
    c.requires.within c.in_ok-pilots.ensures.exact c.below-bucket.ensures (omega (arith, count, c.if-bucket-buckets.true))

pub returns-clause-value : goal.returns-clause-value
returns-clause-value c =
    let bytes = c.args.bytes.now in
    let count = c.in_ok-pilots.ensures.found.count_is in
    pilots_yes bytes c.args.enc c.args.number c.args.buckets c.args.at c.in_ok-pilots.pilots.values (drop c.in_ok-pilots.next bytes) c.below-bucket.result
    c.requires.within c.in_ok-pilots.ensures.exact c.below-bucket.ensures (omega (arith, count, c.if-bucket-buckets.false))
