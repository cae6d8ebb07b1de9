use Rattle.std.proofs.Common.{ℕ, ◌<◌, ◌≤◌}
use Rattle.block_pool.specs.Linking.{held_at}
use Rattle.block_pool.proofs.blocks.longest_of.Given as goal

abbrev pub invariant-loop-k : goal.invariant-loop-k
invariant-loop-k l =
    record {
      inside : l.longest < l.k;
      longest : (j : ℕ) → j < l.k → (held_at l.chains j).len ≤ (held_at l.chains l.longest).len;
      first : (j : ℕ) → j < l.longest → (held_at l.chains j).len < (held_at l.chains l.longest).len;
    }
