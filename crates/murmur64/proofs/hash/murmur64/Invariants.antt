use Rattle.std.proofs.Common.{◌≡◌, length}
use Rattle.pthash.specs.Hash.{hash_of}
use Rattle.murmur64.proofs.Steps.{hash_from}
use Rattle.murmur64.proofs.hash.murmur64.Given as goal

abbrev pub invariant-loop-rest : goal.invariant-loop-rest
invariant-loop-rest l = hash_from l.h l.rest ≡ hash_of l.fn.bytes l.fn.seed

abbrev pub decreases-loop-rest : goal.decreases-loop-rest
decreases-loop-rest l = length l.rest
