use Rattle.std.proofs.Common.{◌≡◌, ◌≤◌, ◌++◌, length, take}
use Rattle.block_pool.specs.Chains.{chain_at, with_chain, held_blocks}
use Rattle.callers.proofs.chains.push_all.Given as goal

abbrev pub invariant-loop-item : goal.invariant-loop-item
invariant-loop-item l =
    (l.pool ≡ with_chain l.fn.pool l.fn.chain (chain_at l.fn.pool l.fn.chain ++ take l.item-index l.fn.records))
    × (length l.pool.chains ≡ length l.fn.pool.chains)
    × (held_blocks l.pool ≤ l.pool.blocks)
