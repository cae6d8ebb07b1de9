use Rattle.std.proofs.Common.{◌-◌, arith, rules}
use Rattle.part_function.proofs.Numbered.{none_numbered, one_more_numbered}
use Rattle.part_function.proofs.numbering.numbered.Goals as goal

pub loop-rank-init : goal.loop-rank-init
loop-rank-init c =
    none_numbered c.args.plan.now.buckets c.args.pilots.now _ c.ranks-rank.result c.args.m (omega arith) (search rules)

pub loop-rank-preserved : goal.loop-rank-preserved
loop-rank-preserved c =
    one_more_numbered c.args.plan.now.buckets c.args.pilots.now c.loop-rank.by_number.items c.loop-rank.rank c.bucket.result c.args.m
    (omega arith) (omega arith) (search rules) (search rules) (c.requires.below (c.loop-rank.rank - 1) (omega arith)) c.loop-rank.invariant
