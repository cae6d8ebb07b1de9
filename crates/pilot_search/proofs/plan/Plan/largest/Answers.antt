use Rattle.std.proofs.Common.{ap, arith}
use Rattle.pthash.specs.Search.{SearchPlan}
use Rattle.pilot_search.proofs.BucketCounts.{most_members-member_count}
use Rattle.pilot_search.proofs.plan.Plan.largest.Goals as goal

pub returns-clause-upper : goal.returns-clause-upper
returns-clause-upper c =
    omega (arith, most_members-member_count c.self.inside.buckets, ap (λ (p : SearchPlan). p.size) c.self.view_is)
