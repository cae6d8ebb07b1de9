use Rattle.std.proofs.Common.{arith}
use Rattle.pth_top.proofs.TextSteps.{causes_text_more, causes_text_all}
use Rattle.pth_top.proofs.text.push_causes.Goals as goal

pub loop-i-preserved : goal.loop-i-preserved
loop-i-preserved c =
    causes_text_more c.args.seeds.now c.args.causes.now c.loop-i.i _ _ _ _ (omega arith) (omega arith) c.loop-i.invariant c.in_ok-push_cause.ensures

pub returns : goal.returns
returns c = causes_text_all c.args.seeds.now c.args.causes.now c.loop-i.i _ _ (omega arith) c.loop-i.invariant
