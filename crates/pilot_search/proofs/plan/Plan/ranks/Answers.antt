use Rattle.std.proofs.Common.{ap, arith}
use Rattle.pthash.specs.Search.{SearchPlan}
use Rattle.pilot_search.proofs.BucketCounts.{length-member_count}
use Rattle.pilot_search.proofs.plan.Plan.ranks.Goals as goal

pub returns-clause-upper : goal.returns-clause-upper
returns-clause-upper c =
    omega (arith, length-member_count c.self.inside.buckets c.self.invariant.no_empty, ap (λ (p : SearchPlan). p.size) c.self.view_is)
