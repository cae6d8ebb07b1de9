use Rattle.std.proofs.Common.{refl, arith}
use Rattle.pthash.specs.Records.{records_of}
use Rattle.hem_build.proofs.Attempts.{partitions_of_keys}
use Rattle.hem_build.specs.Starts.{FewKeys}
use Rattle.hem_build.proofs.attempt.parts_of_keys.Goals as goal

pub build_partitions-requires-clause-some_partition : goal.build_partitions-requires-clause-some_partition
build_partitions-requires-clause-some_partition g c =
    let cut = partitions_of_keys c.args.keys.now c.args.seed c.args.settings.now.parts (records_of c.args.keys.now c.args.seed) c.in_ok-all.all.pieces
    c.requires refl c.in_ok-all.ensures.pieces in
    omega (arith, cut.count, c.args.settings.now.some_partition)

pub build_partitions-requires-clause-few_partitions : goal.build_partitions-requires-clause-few_partitions
build_partitions-requires-clause-few_partitions g c =
    let cut = partitions_of_keys c.args.keys.now c.args.seed c.args.settings.now.parts (records_of c.args.keys.now c.args.seed) c.in_ok-all.all.pieces
    c.requires refl c.in_ok-all.ensures.pieces in
    omega (arith, cut.count, c.args.settings.now.few_partitions)

pub build_partitions-requires-clause-few_keys : goal.build_partitions-requires-clause-few_keys
build_partitions-requires-clause-few_keys g c =
    let few : FewKeys c.in_ok-all.all.pieces =
    (partitions_of_keys c.args.keys.now c.args.seed c.args.settings.now.parts (records_of c.args.keys.now c.args.seed) c.in_ok-all.all.pieces
    c.requires refl c.in_ok-all.ensures.pieces).few_keys in
    λ lifetimes lives. few
