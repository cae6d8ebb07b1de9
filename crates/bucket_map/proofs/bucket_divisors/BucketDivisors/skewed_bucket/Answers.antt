use Rattle.std.proofs.Common.{◌≡◌, ◌%◌, ◌<◌, ◌≤◌, ap, inl, inr, arith}
use Rattle.std.specs.Prelude.{◌⊎◌}
use Rattle.pthash.specs.Sizes.{skewed_bucket_of}
use Rattle.pthash.specs.declared.TheConstants.{FRONT_HASHES}
use Rattle.pthash.specs.SizeLaws.{skewed_bucket_of-front, skewed_bucket_of-back}
use Rattle.bucket_map.proofs.bucket_divisors.BucketDivisors.skewed_bucket.Goals as goal
use Rattle.bucket_map.proofs.bucket_divisors.BucketDivisors.skewed_bucket.Goals.{then-a-lt-FRONT_HASHES+then-self-gt0, else-a-lt-FRONT_HASHES}
use Rattle.bucket_map.proofs.bucket_divisors.BucketDivisors.skewed_bucket.Goals.{else-a-lt-FRONT_HASHES-via-then-a-lt-FRONT_HASHES+else-self-gt0}
use Rattle.bucket_map.proofs.bucket_divisors.BucketDivisors.skewed_bucket.Goals.{else-a-lt-FRONT_HASHES-via-else-a-lt-FRONT_HASHES}

pub returns-clause-value : goal.returns-clause-value
returns-clause-value c =
    let self = c.self.inside in
    let a = c.args.a in
    let rest = c.remainder.ensures.value in
    elim c.if-a-lt-FRONT_HASHES.branch [
      | then-a-lt-FRONT_HASHES+then-self-gt0 w ↦
          let front : self.front ≡ self.front_count = omega (arith, c.self.invariant.front_is, w.if-self-gt0.true) in
          omega (
            arith,
            rest,
            ap (λ p. p.0) w.before-is,
            ap (λ p. a % p.1.now) w.before-is,
            ap (λ k. a % k) front,
            skewed_bucket_of-front a self.whole self.front_count c.self.invariant.counted w.if-a-lt-FRONT_HASHES.true w.if-self-gt0.true,
            ap (skewed_bucket_of a) c.self.view_is,
          )
      | else-a-lt-FRONT_HASHES w ↦
          let back : ((a < FRONT_HASHES) × (self.front_count ≤ 0)) ⊎ (FRONT_HASHES ≤ a) = elim w.else-a-lt-FRONT_HASHES.branch [
            | else-a-lt-FRONT_HASHES-via-then-a-lt-FRONT_HASHES+else-self-gt0 v ↦ inl (v.if-a-lt-FRONT_HASHES.true, v.if-self-gt0.false)
            | else-a-lt-FRONT_HASHES-via-else-a-lt-FRONT_HASHES v ↦ inr v.if-a-lt-FRONT_HASHES.false
          ] in
          omega (
            arith,
            rest,
            ap (λ p. p.0) w.before-is,
            ap (λ p. a % p.1.now) w.before-is,
            ap (λ k. a % k) c.self.invariant.back_is,
            skewed_bucket_of-back a self.whole self.front_count c.self.invariant.counted back,
            ap (skewed_bucket_of a) c.self.view_is,
          )
    ]
