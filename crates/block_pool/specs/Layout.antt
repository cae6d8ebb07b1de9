-- How a pool holds its chains.
use Rattle.std.specs.Prelude.{◌≡◌, ◌≢◌, ℕ, ◌+◌, ◌-◌, ◌*◌, ◌/◌, ◌<◌, ◌≤◌, List, length}
use Rattle.std.specs.Prelude.{map, sum_by, slice_index, vec_capacity}
use Rattle.std.specs.Int.{div_ceil}
use Rattle.block_pool.specs.declared.blocks.Chain.{Chain}
use Rattle.block_pool.specs.declared.blocks.Pool.TheInside.{Inside}
use Rattle.block_pool.specs.declared.blocks.TheConstants.{BLOCK_RECORDS, MAX_BLOCKS, MAX_CHAINS}
use Rattle.block_pool.specs.Chains.{PoolData}
use Rattle.block_pool.specs.Linking.{held_at, block_from, records_of}

-- how many blocks the records of a chain take
abbrev pub block_count : Chain → ℕ
block_count chain = div_ceil chain.len BLOCK_RECORDS

-- the block at a place of a chain
abbrev pub block_at : List ℕ → List Chain → ℕ → ℕ → ℕ
block_at next chains c k = block_from next (held_at chains c).head k

-- a chain has a block at this place
abbrev pub HasBlock : List Chain → ℕ → ℕ → Type 0
HasBlock chains c k = k * BLOCK_RECORDS < (held_at chains c).len

-- each block is at one place of one chain, or is spare, or was never in use
pub record IsLinked (next spare : List ℕ) (spare_count made : ℕ) (chains : List Chain) : Type 0 where
  pub most : length next ≤ MAX_BLOCKS
  pub room : length spare ≡ length next
  pub made_within : made ≤ length next
  pub counted : spare_count + sum_by block_count chains ≡ made
  pub inside : (c k : ℕ) → HasBlock chains c k → block_at next chains c k < made
  pub spare_inside : (k : ℕ) → k < spare_count → slice_index spare k < made
  pub apart : (c d j k : ℕ) → HasBlock chains c j → HasBlock chains d k
      → block_at next chains c j ≡ block_at next chains d k → (c ≡ d) × (j ≡ k)
  pub spare_apart : (c j k : ℕ) → HasBlock chains c j → k < spare_count
      → block_at next chains c j ≢ slice_index spare k
  pub spares_differ : (j k : ℕ) → j < spare_count → k < spare_count
      → slice_index spare j ≡ slice_index spare k → j ≡ k
  pub tails : (c : ℕ) → 0 < (held_at chains c).len
      → (held_at chains c).tail ≡ block_at next chains c (((held_at chains c).len - 1) / BLOCK_RECORDS)

-- the chains are linked, and the region has room for all blocks
pub record IsSound (p : Inside) : Type 0 where
  pub linked : IsLinked p.next.items p.spare.items p.spare_count p.made p.chains.items
  pub stored : length p.records.items ≡ p.made * BLOCK_RECORDS
  pub reserved : length p.next.items * BLOCK_RECORDS ≤ vec_capacity p.records
  pub some_chains : 1 ≤ length p.chains.items
  pub most_chains : length p.chains.items ≤ MAX_CHAINS

-- the number of blocks, and the records of each chain
abbrev pub pool_in : Inside → PoolData
pool_in p =
    record {
      blocks = length p.next.items;
      chains = map (records_of p.records.items p.next.items) p.chains.items;
    }
