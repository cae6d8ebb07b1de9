use Rattle.std.proofs.Common.{◌≤◌, ap, arith, subst, length}
use Rattle.pthash.specs.Order.{bucket_at, most_members}
use Rattle.pthash.specs.Search.{SearchPlan}
use Rattle.pilot_search.proofs.BucketCounts.{members-most_members}
use Rattle.pilot_search.proofs.plan.Plan.members.Goals as goal

pub returns-clause-upper : goal.returns-clause-upper
returns-clause-upper c =
    let ranks = ap (λ (p : SearchPlan). length p.buckets) c.self.view_is in
    let P : SearchPlan → Type 0 = λ p. length (bucket_at c.self.inside.buckets c.args.rank).members ≤ most_members p.buckets in
    rw c.members.ensures (subst P c.self.view_is (members-most_members c.self.inside.buckets c.args.rank (omega (arith, ranks))))
