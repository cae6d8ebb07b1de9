use Rattle.std.specs.Prelude.{◌+◌, ◌<◌, length}
use Rattle.std.proofs.Common.{sym, ◌∙◌, arith}
use Rattle.demo_index.proofs.Lists.{sum_none, sum_more}
use Rattle.demo_index.proofs.trial.sum_of.Goals as goal

pub loop-i-init : goal.loop-i-init
loop-i-init c = (sum_none c.args.index.now.index, omega arith)

pub loop-i-preserved : goal.loop-i-preserved
loop-i-preserved c =
    let kept = c.loop-i.invariant in
    let within : c.loop-i.i < length c.args.keys.now = omega arith in (
      (λ k. kept.0 k + c.number_of-sum.ensures.value k)
          ∙ sym (sum_more c.args.index.now.index c.args.keys.now c.loop-i.i c.key.result.now within c.key.ensures.key),
      omega (arith, kept.1, c.number_of-sum.ensures.below, c.requires.few_values),
    )
