-- A pool as its users see it: how many blocks it has, and the records of each chain.
use Rattle.std.specs.Prelude.{◌≡◌, ℕ, ◌-◌, ◌%◌, List, [], length, set, replicate, sum_by, slice_index_or}
use Rattle.std.specs.Int.{div_ceil}
use Rattle.pthash.specs.declared.Record.{Record}
use Rattle.block_pool.specs.declared.blocks.TheConstants.{BLOCK_RECORDS}

-- the number of all blocks, and the records of each chain, the oldest first
pub record PoolData : Type 0 where
  pub blocks : ℕ
  pub chains : List (List Record)

-- the records of a chain
abbrev pub chain_at : PoolData → ℕ → List Record
chain_at pool chain = slice_index_or pool.chains chain []

-- the pool with other records in one of its chains
abbrev pub with_chain : PoolData → ℕ → List Record → PoolData
with_chain pool chain records =
    record { blocks = pool.blocks; chains = set pool.chains chain records }

-- a pool in which no chain has a record
abbrev pub empty_pool : ℕ → ℕ → PoolData
empty_pool blocks chains = record { blocks = blocks; chains = replicate chains [] }

-- how many blocks the records of a chain take, of which the last may have room
abbrev pub blocks_of : List Record → ℕ
blocks_of records = div_ceil (length records) BLOCK_RECORDS

-- how many blocks all chains take
abbrev pub held_blocks : PoolData → ℕ
held_blocks pool = sum_by blocks_of pool.chains

-- how many blocks no chain takes
abbrev pub free_blocks : PoolData → ℕ
free_blocks pool = pool.blocks - held_blocks pool

-- no block is free, and the last block of the chain is full or absent
abbrev pub HasNoRoom : PoolData → ℕ → Type 0
HasNoRoom pool chain =
    (free_blocks pool ≡ 0) × (length (chain_at pool chain) % BLOCK_RECORDS ≡ 0)
