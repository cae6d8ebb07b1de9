-- Hashes have 64 bits, at each seed.
use Rattle.std.specs.Prelude.{ℕ, ◌*◌, ◌/◌, ◌^◌, ◌<◌, List, length, drop, fold}
use Rattle.std.specs.Int.{w64, to_le_bytes}
use Rattle.std.proofs.Common.{arith}
use Rattle.std.proofs.Math.Nat.{mod-lt}
use Rattle.std.proofs.lemmas.Nat.{xor_lt}
use Rattle.pthash.specs.declared.TheConstants.{MULTIPLIER}
use Rattle.pthash.specs.Hash.{product, folded, blocks_of, first_state, after_block, after_rest, hash_of, pilot_hash}

-- a product has 64 bits
product-lt : (x y : ℕ) → product x y < 2 ^ 64
product-lt x y = mod-lt (x * y) (omega arith)

-- mixing keeps them
folded-lt : (x : ℕ) → x < 2 ^ 64 → folded x < 2 ^ 64
folded-lt x fits =
    let high : x / 2 ^ 47 < 2 ^ 64 = omega arith in
    xor_lt 64 x (x / 2 ^ 47) fits high

-- a hash has 64 bits
pub hash_of-lt : (bytes : List ℕ) (seed : ℕ) → hash_of bytes seed < 2 ^ 64
unfolding hash_of
hash_of-lt bytes seed =
    let n = length bytes / 8 in
    let state = fold after_block (first_state seed (length bytes)) (blocks_of n bytes) in
    let h = after_rest state (drop (8 * n) bytes) in
    folded-lt (product (folded h) MULTIPLIER) (product-lt (folded h) MULTIPLIER)

-- and so has the hash of a pilot
pub pilot_hash-lt : (pilot seed : ℕ) → pilot_hash pilot seed < 2 ^ 64
unfolding pilot_hash
pilot_hash-lt pilot seed = hash_of-lt (to_le_bytes w64 pilot) seed
