use Rattle.std.proofs.Common.{◌≡◌, ℕ, ◌*◌, max, ap, ◌∙◌}
use Rattle.std.specs.Int.{div_ceil}
use Rattle.bucket_map.proofs.SizeLemmas.{bucket_count_of-none, bucket_count_of-some}
use Rattle.bucket_map.proofs.sizes.bucket_count.Goals as goal

pub returns-then-n-eq0-clause-value : goal.returns-then-n-eq0-clause-value
returns-then-n-eq0-clause-value c = bucket_count_of-none c.args.n c.args.c c.if-n-eq0.true

pub returns-clause-value : goal.returns-clause-value
returns-clause-value c =
    let keys : c.from.result * c.args.n ≡ c.args.c * c.args.n = ap (λ (x : ℕ). x * c.args.n) c.from.ensures in
    let log : c.max.result ≡ max c.ilog2.result 1 = c.max.ensures ∙ ap (λ (x : ℕ). max x 1) c.from-log.ensures in
    c.div_ceil.ensures
    ∙ ap (λ (x : ℕ). div_ceil x (100 * c.max.result)) keys
    ∙ ap (λ (x : ℕ). div_ceil (c.args.c * c.args.n) (100 * x)) log
    ∙ bucket_count_of-some c.args.n c.args.c c.ilog2.result c.ilog2.ensures.power_le c.ilog2.ensures.next_power_gt c.ilog2.ensures.bound
