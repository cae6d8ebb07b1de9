use Rattle.std.proofs.Common.{sym, rules, arith}
use Rattle.pth_top.proofs.TextSteps.{parts_text_more}
use Rattle.pth_top.proofs.text.push_partitions.Goals as goal

pub loop-number-preserved : goal.loop-number-preserved
loop-number-preserved c =
    parts_text_more c.args.alpha c.loop-number.number c.part.inside.n c.table_size-size.result c.args.parts.now c.index-parts-number.result
    _ _ _ c.deref.result.now (omega arith) (sym c.index-parts-number.is) (search rules) c.table_size-size.ensures.value (search rules)
    c.loop-number.invariant c.in_ok-push_partition.ensures
