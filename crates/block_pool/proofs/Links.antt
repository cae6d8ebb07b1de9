-- The blocks that links lead to.
use Rattle.std.proofs.Common.{◌≡◌, ◌≢◌, ℕ, zero, suc, ◌<◌, List, get_or, set, refl, ap, ◌∙◌, arith}
use Rattle.std.proofs.lemmas.List.{get_or-set_other}
use Rattle.block_pool.specs.Linking.{block_from}

-- from the second block of a chain on
pub block_from-next : (next : List ℕ) (head k : ℕ) → block_from next (get_or next head 0) k ≡ block_from next head (suc k)
unfolding block_from
block_from-next next head zero = refl
block_from-next next head (suc k) = ap (λ (b : ℕ). get_or next b 0) (block_from-next next head k)

-- a link of a block that no link so far leads from
pub block_from-set : (next : List ℕ) (from to head k : ℕ) → ((i : ℕ) → i < k → block_from next head i ≢ from)
    → block_from (set next from to) head k ≡ block_from next head k
unfolding block_from
block_from-set next from to head zero apart = refl
block_from-set next from to head (suc k) apart =
    ap (λ (b : ℕ). get_or (set next from to) b 0) (block_from-set next from to head k (λ i h. apart i (omega arith)))
    ∙ get_or-set_other next from (block_from next head k) to 0 (apart k (omega arith))
