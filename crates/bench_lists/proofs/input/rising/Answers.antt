use Rattle.std.proofs.Common.{arith}
use Rattle.bench_lists.proofs.Rising.{rises-none, last_of-none, rises-push, last_of-push}
use Rattle.bench_lists.proofs.input.rising.Goals as goal

pub loop-init : goal.loop-init
loop-init c = rw c.new-values.ensures.items (rises-none, last_of-none, omega arith)

pub loop-preserved : goal.loop-preserved
loop-preserved c =
    let kept = c.loop.invariant in
    rw c.in_ok-push.ensures.items (
      rises-push 0 c.loop.values.items c.saturating_add-total.result kept.0 (omega (arith, kept.1, kept.2, c.saturating_add-total.ensures)),
      omega (arith, last_of-push 0 c.loop.values.items c.saturating_add-total.result),
      omega (arith, c.saturating_add-total.ensures),
    )
