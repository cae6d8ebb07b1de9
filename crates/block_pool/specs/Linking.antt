-- Chains of blocks that are linked by their numbers.
use Rattle.std.specs.Prelude.{◌≡◌, ℕ, zero, suc, ◌+◌, ◌*◌, ◌/◌, ◌%◌, ◌<◌, List, set, map, slice_index, slice_index_or}
use Rattle.pthash.specs.Order.{numbers_below}
use Rattle.pthash.specs.declared.Record.{Record}
use Rattle.block_pool.specs.declared.blocks.Chain.{Chain}
use Rattle.block_pool.specs.declared.blocks.TheConstants.{BLOCK_RECORDS}

-- what a place without a record reads as
abbrev pub NO_RECORD : Record
NO_RECORD = record { a = 0; b = 0; ordinal = 0 }

-- a chain without records
abbrev pub NO_CHAIN : Chain
NO_CHAIN = record { head = 0; tail = 0; len = 0 }

-- the chain at a place
abbrev pub held_at : List Chain → ℕ → Chain
held_at chains k = slice_index_or chains k NO_CHAIN

-- the block that so many links lead to
unfoldable pub block_from : List ℕ → ℕ → ℕ → ℕ
block_from next head zero = head
block_from next head (suc links) = slice_index next (block_from next head links)

-- where a record of a chain stands in the region
abbrev pub place_in : List ℕ → Chain → ℕ → ℕ
place_in next chain i =
    block_from next chain.head (i / BLOCK_RECORDS) * BLOCK_RECORDS + i % BLOCK_RECORDS

-- the records of a chain
unfoldable pub records_of : List Record → List ℕ → Chain → List Record
records_of records next chain =
    map (λ i. slice_index_or records (place_in next chain i) NO_RECORD) (numbers_below chain.len)

-- a chain of full blocks is changed so that a record stands in one more block, to which its last one leads
pub record IsBegun (chain : Chain) (block : ℕ) (next linked : List ℕ) (longer : Chain) : Type 0 where
  pub tail : longer.tail ≡ block
  pub len : longer.len ≡ chain.len + 1
  pub first_head : chain.len ≡ 0 → longer.head ≡ block
  pub first_link : chain.len ≡ 0 → linked ≡ next
  pub later_head : 0 < chain.len → longer.head ≡ chain.head
  pub later_link : 0 < chain.len → linked ≡ set next chain.tail block
