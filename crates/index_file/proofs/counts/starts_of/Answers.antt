use Rattle.std.proofs.Common.{◌+◌, sym, subst, ◌∙◌, arith}
use Rattle.pilot_codecs.proofs.CallerLemmas.{each_below}
use Rattle.index_file.proofs.Totals.{AreStarts, starts_first, starts_more, starts_all}
use Rattle.index_file.proofs.counts.starts_of.Goals as goal

pub loop-i-init : goal.loop-i-init
loop-i-init c =
    let none = c.reserve.ensures.items ∙ c.new-starts.ensures.items in
    subst (AreStarts c.args.counts.now 0 0) (sym none) (starts_first c.args.counts.now)

pub overflow_add-total : goal.overflow_add-total
overflow_add-total c =
    let counts = c.args.counts.now in
    let here = each_below 67108865 counts c.loop-i.i c.requires.small (omega arith) in
    let most = c.loop-i.invariant.sums.most in
    omega (arith, c.requires.few)

pub loop-i-preserved : goal.loop-i-preserved
loop-i-preserved c =
    let counts = c.args.counts.now in
    let i = c.loop-i.i in
    let here = each_below 67108865 counts i c.requires.small (omega arith) in
    subst (AreStarts counts (i + 1) _) (sym c.in_ok-push.ensures.items)
    (starts_more counts i c.loop-i.total c.loop-i.starts.items (omega arith) here c.loop-i.invariant)

pub returns : goal.returns
returns c = starts_all c.args.counts.now c.loop-i.i c.loop-i.total c.loop-i.starts.items (omega arith) c.loop-i.invariant
