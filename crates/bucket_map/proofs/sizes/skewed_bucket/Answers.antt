use Rattle.pthash.specs.SizeLaws.{skewed_bucket_of-front, skewed_bucket_of-back}
use Rattle.bucket_map.proofs.sizes.skewed_bucket.Goals as goal

pub returns-then-front-gt0-clause-value : goal.returns-then-front-gt0-clause-value
returns-then-front-gt0-clause-value c =
    skewed_bucket_of-front c.args.a c.args.m c.front_count-front.result c.front_count-front.ensures.value c.if-a-lt-FRONT_HASHES.true c.if-front-gt0.true

pub returns-else-a-lt-FRONT_HASHES-clause-value : goal.returns-else-a-lt-FRONT_HASHES-clause-value
returns-else-a-lt-FRONT_HASHES-clause-value c =
    skewed_bucket_of-back c.args.a c.args.m c.front_count-front.result c.front_count-front.ensures.value c.else-a-lt-FRONT_HASHES.either
