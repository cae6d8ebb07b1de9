use Rattle.std.proofs.Common.{◌≡◌, ℕ, ◌<◌}
use Rattle.std.specs.Prelude.{slice_index}
use Rattle.pthash.specs.Hash.{pilot_hash}
use Rattle.turn_search.proofs.hashes.fill_hashes.Given as goal

abbrev pub invariant-loop-pilot : goal.invariant-loop-pilot
invariant-loop-pilot l = (k : ℕ) → k < l.pilot → slice_index l.hashes k ≡ pilot_hash k l.seed
