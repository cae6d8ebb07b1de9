use Rattle.std.proofs.Common.{◌+◌, sym, subst, arith}
use Rattle.std.proofs.lemmas.Result.{err_from_is_err_and}
use Rattle.bucket_map.specs.ShapeData.{shape_data}
use Rattle.pilot_codecs.proofs.CallerLemmas.{each_below}
use Rattle.index_file.proofs.PartitionSteps.{ArePartitions, partitions_more, partitions_err, partitions_all}
use Rattle.index_file.proofs.partitions.partitions_of.Goals as goal

pub lists_of-requires-clause-few : goal.lists_of-requires-clause-few
lists_of-requires-clause-few c =
    let few = each_below 67108865 c.args.counts.now c.loop-i.i c.requires.small c.loop-i-test.true in omega (arith, few)

pub returns-in_err-lists-clause-value : goal.returns-in_err-lists-clause-value
returns-in_err-lists-clause-value c =
    let p = err_from_is_err_and c.from_residual-in_err-lists.result c.from_residual-in_err-lists.ensures.1 in
    rw (p.1, p.2) (partitions_err c.args.bytes.now c.args.enc (shape_data c.args.shape) c.args.counts.now c.args.at c.loop-i.i c.loop-i.parts.items
    c.loop-i.place
    c.in_err-lists.field-0.0 c.loop-i-test.true c.loop-i.invariant c.in_err-lists.ensures.value)

pub loop-i-preserved : goal.loop-i-preserved
loop-i-preserved c =
    let bytes = c.args.bytes.now in
    let shape = shape_data c.args.shape in
    let counts = c.args.counts.now in
    let i = c.loop-i.i in
    subst (λ ps. ArePartitions bytes c.args.enc shape counts c.args.at (i + 1) ps c.in_ok-lists.next) (sym c.in_ok-push.ensures.items)
    (partitions_more bytes c.args.enc shape counts c.args.at i c.loop-i.parts.items c.loop-i.place c.in_ok-lists.lists c.in_ok-lists.next c.loop-i-test.true
    c.loop-i.invariant c.in_ok-lists.ensures.value c.in_ok-lists.ensures.within c.in_ok-lists.ensures.under)

pub returns-clause-value : goal.returns-clause-value
returns-clause-value c =
    partitions_all c.args.bytes.now c.args.enc (shape_data c.args.shape) c.args.counts.now c.args.at c.loop-i.i c.loop-i.parts.items c.loop-i.place
    c.loop-i-test.false c.loop-i.invariant
