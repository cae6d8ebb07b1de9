use Rattle.std.proofs.Common.{rules}
use Rattle.hem_build.proofs.RecordShares.{key_at_get}
use Rattle.hem_build.proofs.build.are_equal.Goals as goal

pub returns : goal.returns
returns c =
    let first = key_at_get c.args.keys.now c.args.first c.key.result.now c.key.ensures.key in
    let second = key_at_get c.args.keys.now c.args.second c.key-2.result.now c.key-2.ensures.key in
    rw (first, second) (search rules)
