use Rattle.std.proofs.Common.{ap, ◌∙◌, arith}
use Rattle.std.specs.Prelude.{sum}
use Rattle.std.proofs.lemmas.List.{take_all}
use Rattle.pilot_codecs.proofs.CallerLemmas.{each_below}
use Rattle.index_file.proofs.Totals.{total_first, total_more}
use Rattle.index_file.proofs.counts.sum_of.Goals as goal

pub loop-i-init : goal.loop-i-init
loop-i-init c = total_first c.args.counts.now

pub overflow_add-total : goal.overflow_add-total
overflow_add-total c =
    let counts = c.args.counts.now in
    let i = c.loop-i.i in
    let here = each_below 67108865 counts i c.requires.small (omega arith) in
    let most = c.loop-i.invariant.most in
    omega (arith, c.requires.few)

pub loop-i-preserved : goal.loop-i-preserved
loop-i-preserved c =
    let counts = c.args.counts.now in
    let i = c.loop-i.i in
    total_more counts i c.loop-i.total (omega arith) (each_below 67108865 counts i c.requires.small (omega arith)) c.loop-i.invariant

pub returns : goal.returns
returns c = c.loop-i.invariant.is ∙ ap sum (take_all c.loop-i.i c.args.counts.now (omega arith))
