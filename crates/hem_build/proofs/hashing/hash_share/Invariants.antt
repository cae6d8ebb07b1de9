use Rattle.hem_build.proofs.RecordShares.{IsHashing}
use Rattle.hem_build.proofs.hashing.hash_share.Given as goal

abbrev pub invariant-loop-i : goal.invariant-loop-i
invariant-loop-i l = IsHashing l.keys l.seed l.start l.i l.initial.share l.share
