use Rattle.std.proofs.Common.{◌≡◌, length, sym, subst, arith}
use Rattle.hem_build.proofs.Grouping.{AreGroupsTo, groups_done}
use Rattle.hem_build.specs.Starts.{AreGroupStarts}
use Rattle.hem_build.proofs.groups.group_starts.Goals as goal

pub returns : goal.returns
returns c =
    let all : c.loop.counter ≡ c.args.groups = omega arith in
    let so_far : AreGroupsTo (length c.args.counts.now) c.args.groups c.loop.start c.loop.starts.items =
    subst (λ n. AreGroupsTo (length c.args.counts.now) n c.loop.start c.loop.starts.items) all c.loop.invariant in
    subst (λ v. AreGroupStarts c.args.groups (length c.args.counts.now) v)
    (sym c.in_ok-push-2.ensures.items)
    (groups_done c.args.groups (length c.args.counts.now) c.loop.start c.loop.starts.items c.requires.some so_far)
