-- The hash of the bytes that are left, from the state that the earlier blocks gave.
use Rattle.std.proofs.Common.{◌≡◌, ℕ, suc, ◌*◌, ◌/◌, ◌<◌, ◌≤◌, List, [], ◌∷◌, length}
use Rattle.std.proofs.Common.{take, drop, fold, refl, sym, ap, ◌∙◌, arith, length-drop, bit_xor, ◌^◌}
use Rattle.std.proofs.lemmas.List.{drop-drop}
use Rattle.murmur64.proofs.Numbers.{number_of-bytes}
use Rattle.pthash.specs.declared.TheConstants.{MULTIPLIER}
use Rattle.pthash.specs.Hash.{product, number_of, blocks_of, first_state, after_block, after_rest, last_mixing, hash_of, pilot_hash}

-- the hash of bytes with n whole blocks, from a state
unfoldable pub hash_with : ℕ → ℕ → List ℕ → ℕ
hash_with h n bytes = last_mixing (after_rest (fold after_block h (blocks_of n bytes)) (drop (8 * n) bytes))

-- the hash of bytes, from a state
abbrev pub hash_from : ℕ → List ℕ → ℕ
hash_from h bytes = hash_with h (length bytes / 8) bytes

-- from the first state it is the hash
pub hash_from-first : (bytes : List ℕ) (seed : ℕ) → hash_from (first_state seed (length bytes)) bytes ≡ hash_of bytes seed
unfolding hash_with hash_of
hash_from-first bytes seed = refl

-- the first block moves into the state
hash_with-block : (h n : ℕ) (bytes : List ℕ)
    → hash_with h (suc n) bytes ≡ hash_with (after_block h (number_of (take 8 bytes))) n (drop 8 bytes)
unfolding hash_with blocks_of
hash_with-block h n bytes =
    let state = fold after_block (after_block h (number_of (take 8 bytes))) (blocks_of n (drop 8 bytes)) in
    let rest : drop (8 * n) (drop 8 bytes) ≡ drop (8 * suc n) bytes =
    drop-drop (8 * n) 8 bytes ∙ ap (λ (i : ℕ). drop i bytes) (omega arith) in
    ap (λ (xs : List ℕ). last_mixing (after_rest state xs)) (sym rest)

-- the first block moves into the state
pub hash_from-block : (h : ℕ) (bytes : List ℕ) → 8 ≤ length bytes
    → hash_from (after_block h (number_of (take 8 bytes))) (drop 8 bytes) ≡ hash_from h bytes
hash_from-block h bytes has_block =
    let count : length bytes / 8 ≡ suc (length (drop 8 bytes) / 8) = omega (arith, length-drop {A = ℕ}) in
    sym (ap (λ (n : ℕ). hash_with h n bytes) count ∙ hash_with-block h (length (drop 8 bytes) / 8) bytes)

-- without a block only the rest is left
hash_with-none : (h : ℕ) (bytes : List ℕ) → hash_with h 0 bytes ≡ last_mixing (after_rest h bytes)
unfolding hash_with blocks_of
hash_with-none h bytes = refl

-- without a block only the rest is left
pub hash_from-rest : (h : ℕ) (bytes : List ℕ) → length bytes < 8 → last_mixing (after_rest h bytes) ≡ hash_from h bytes
hash_from-rest h bytes short =
    let count : length bytes / 8 ≡ 0 = omega arith in
    sym (ap (λ (n : ℕ). hash_with h n bytes) count ∙ hash_with-none h bytes)

-- some bytes are left
pub after_rest-some : (h : ℕ) (bytes : List ℕ) → 0 < length bytes
    → after_rest h bytes ≡ product (bit_xor h (number_of bytes)) MULTIPLIER
after_rest-some h [] some = absurd (omega arith)
after_rest-some h (b ∷ bs) some = refl

-- a pilot fills one block
pub pilot_hash-one_block : (pilot seed : ℕ) → pilot < 2 ^ 64
    → last_mixing (after_block (first_state seed 8) pilot) ≡ pilot_hash pilot seed
unfolding pilot_hash hash_of blocks_of
pilot_hash-one_block pilot seed fits =
    ap (λ (x : ℕ). last_mixing (after_block (first_state seed 8) x)) (sym (number_of-bytes pilot fits))
