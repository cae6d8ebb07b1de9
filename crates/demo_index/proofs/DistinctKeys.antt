-- The keys of a demonstration are distinct: each step of the hash of eight bytes can be undone.
use Rattle.std.specs.Prelude.{◌≡◌, ◌≤◌, ℕ, zero, suc, ◌+◌, ◌*◌, ◌/◌, ◌%◌, ◌^◌, ◌<◌, List}
use Rattle.std.specs.Prelude.{[], ◌∷◌, ◌++◌, length, bit_xor, Ok}
use Rattle.std.specs.Int.{w64, byte_at, bytes_high_first, to_le_bytes, to_be_bytes, from_be_bytes}
use Rattle.std.specs.Int.Bits.{xor_assoc, xor_self, xor_zero_r, xor_shifted}
use Rattle.std.proofs.Common.{get_or, add-one, refl, sym, ap, ◌∙◌, arith}
use Rattle.std.proofs.Math.Nat.{mod-lt}
use Rattle.std.proofs.lemmas.List.{length-map, get_or-map, map_push}
use Rattle.std.proofs.lemmas.Nat.{xor_lt, xor_comm, from_be_bytes-to_be_bytes_8}
use Rattle.hex.specs.Hex.{IsBytes, decode_of}
use Rattle.hex.proofs.HexLemmas.{decode_of-encode_lower}
use Rattle.pthash.specs.declared.TheConstants.{MULTIPLIER}
use Rattle.pthash.specs.Hash.{product, folded, first_state, after_block, last_mixing, hash_of, pilot_hash}
use Rattle.pthash.specs.HashLaws.{hash_of-lt}
use Rattle.pthash.specs.Order.{numbers_below}
use Rattle.pthash.specs.OrderLaws.{length-numbers_below, get_or-numbers_below}
use Rattle.murmur64.proofs.Steps.{pilot_hash-one_block}
use Rattle.build_outcome.specs.BuiltLaws.{AreDistinctKeys}
use Rattle.demo_index.specs.Keys.{demo_key, demo_keys_of}

-- a product is undone by the inverse of the multiplier
unmultiplied : (x : ℕ) → x < 2 ^ 64 → (product x MULTIPLIER * 0x5f7a0ea7e59b19bd) % 2 ^ 64 ≡ x
unmultiplied x fits = omega arith

-- so equal products are of equal numbers
product-same : (x y : ℕ) → x < 2 ^ 64 → y < 2 ^ 64 → product x MULTIPLIER ≡ product y MULTIPLIER → x ≡ y
product-same x y x_fits y_fits same =
    sym (unmultiplied x x_fits) ∙ ap (λ n. (n * 0x5f7a0ea7e59b19bd) % 2 ^ 64) same ∙ unmultiplied y y_fits

-- a product has 64 bits
product-lt : (x y : ℕ) → product x y < 2 ^ 64
product-lt x y = mod-lt (x * y) (omega arith)

-- the high bits of a number stay where it is mixed with them
high_stay : (x : ℕ) → x < 2 ^ 64 → folded x / 2 ^ 47 ≡ x / 2 ^ 47
high_stay x fits =
    let high : ℕ = x / 2 ^ 47 in
    let low : ℕ = x % 2 ^ 47 in
    let few : high < 2 ^ 47 = omega arith in
    let below : low < 2 ^ 47 = mod-lt x (omega arith) in
    let parts : x ≡ bit_xor (high * 2 ^ 47) low = omega (arith, xor_shifted high 47 low below) in
    let mixed : folded x ≡ high * 2 ^ 47 + bit_xor low high =
    ap (λ n. bit_xor n high) parts ∙ xor_assoc (high * 2 ^ 47) low high ∙ xor_shifted high 47 (bit_xor low high) (xor_lt 47 low high below few) in
    omega (arith, mixed, xor_lt 47 low high below few)

-- mixing twice gives the number back
folded-twice : (x : ℕ) → x < 2 ^ 64 → folded (folded x) ≡ x
folded-twice x fits =
    ap (bit_xor (folded x)) (high_stay x fits)
    ∙ xor_assoc x (x / 2 ^ 47) (x / 2 ^ 47) ∙ ap (bit_xor x) (xor_self (x / 2 ^ 47)) ∙ xor_zero_r x

-- so equal mixtures are of equal numbers
folded-same : (x y : ℕ) → x < 2 ^ 64 → y < 2 ^ 64 → folded x ≡ folded y → x ≡ y
folded-same x y x_fits y_fits same = sym (folded-twice x x_fits) ∙ ap folded same ∙ folded-twice y y_fits

-- mixing keeps 64 bits
folded-lt : (x : ℕ) → x < 2 ^ 64 → folded x < 2 ^ 64
folded-lt x fits = let high : x / 2 ^ 47 < 2 ^ 64 = omega arith in xor_lt 64 x (x / 2 ^ 47) fits high

-- two xors with the same number are the same only of the same number
xor-same : (h a b : ℕ) → bit_xor h a ≡ bit_xor h b → a ≡ b
xor-same h a b same = sym (twice a) ∙ ap (λ n. bit_xor n h) (xor_comm a h ∙ same ∙ xor_comm h b) ∙ twice b
  where
    twice : (n : ℕ) → bit_xor (bit_xor n h) h ≡ n
    twice n = xor_assoc n h h ∙ ap (bit_xor n) (xor_self h) ∙ xor_zero_r n

-- the hash of one block, from the block multiplied
abbrev from_block : ℕ → ℕ → ℕ
from_block seed block = last_mixing (after_block (first_state seed 8) block)

-- equal hashes of one block are of equal blocks
block-same : (seed x y : ℕ) → x < 2 ^ 64 → y < 2 ^ 64 → first_state seed 8 < 2 ^ 64 → from_block seed x ≡ from_block seed y → x ≡ y
block-same seed x y x_fits y_fits state same =
    let h : ℕ = first_state seed 8 in
    let k : ℕ → ℕ = λ n. product (folded (product n MULTIPLIER)) MULTIPLIER in
    let k_fits : (n : ℕ) → k n < 2 ^ 64 = λ n. product-lt (folded (product n MULTIPLIER)) MULTIPLIER in
    let mixed_fits : (n : ℕ) → bit_xor h (k n) < 2 ^ 64 = λ n. xor_lt 64 h (k n) state (k_fits n) in
    let block : ℕ → ℕ = λ n. product (bit_xor h (k n)) MULTIPLIER in
    let block_fits : (n : ℕ) → block n < 2 ^ 64 = λ n. product-lt (bit_xor h (k n)) MULTIPLIER in
    let last : product (folded (block x)) MULTIPLIER ≡ product (folded (block y)) MULTIPLIER =
    folded-same (product (folded (block x)) MULTIPLIER) (product (folded (block y)) MULTIPLIER)
    (product-lt (folded (block x)) MULTIPLIER) (product-lt (folded (block y)) MULTIPLIER) same in
    let blocks : block x ≡ block y =
    folded-same (block x) (block y) (block_fits x) (block_fits y)
    (product-same (folded (block x)) (folded (block y)) (folded-lt (block x) (block_fits x)) (folded-lt (block y) (block_fits y)) last) in
    let inner : k x ≡ k y =
    xor-same h (k x) (k y) (product-same (bit_xor h (k x)) (bit_xor h (k y)) (mixed_fits x) (mixed_fits y) blocks) in
    let p : ℕ → ℕ = λ n. product n MULTIPLIER in
    let p_fits : (n : ℕ) → p n < 2 ^ 64 = λ n. product-lt n MULTIPLIER in
    product-same x y x_fits y_fits
    (folded-same (p x) (p y) (p_fits x) (p_fits y)
    (product-same (folded (p x)) (folded (p y)) (folded-lt (p x) (p_fits x)) (folded-lt (p y) (p_fits y)) inner))

-- equal hashes of numbers are of equal numbers
hash-same : (seed x y : ℕ) → seed < 2 ^ 64 → x < 2 ^ 64 → y < 2 ^ 64 →
    hash_of (to_le_bytes w64 x) seed ≡ hash_of (to_le_bytes w64 y) seed → x ≡ y
unfolding pilot_hash
hash-same seed x y seed_fits x_fits y_fits same =
    block-same seed x y x_fits y_fits (xor_lt 64 seed (product 8 MULTIPLIER) seed_fits (product-lt 8 MULTIPLIER))
    (pilot_hash-one_block x seed x_fits ∙ same ∙ sym (pilot_hash-one_block y seed y_fits))

-- a byte of a number is below 256
byte_at-lt : (i n : ℕ) → byte_at i n < 256
byte_at-lt zero n = mod-lt n (omega arith)
byte_at-lt (suc i) n = mod-lt (n / 256 ^ suc i) (omega arith)

-- the bytes of a number are bytes
bytes_are : (k n : ℕ) → IsBytes (bytes_high_first k n)
bytes_are zero n i = omega arith
bytes_are (suc k) n zero = byte_at-lt k n
bytes_are (suc k) n (suc i) = bytes_are k n i

-- equal keys are of equal numbers
pub demo_key-same : (seed x y : ℕ) → seed < 2 ^ 64 → x < 2 ^ 64 → y < 2 ^ 64 → demo_key seed x ≡ demo_key seed y → x ≡ y
unfolding demo_key
demo_key-same seed x y seed_fits x_fits y_fits same =
    let hash : ℕ → ℕ = λ n. hash_of (to_le_bytes w64 n) seed in
    let bytes : to_be_bytes w64 (hash x) ≡ to_be_bytes w64 (hash y) =
    (let both : Ok (to_be_bytes w64 (hash x)) ≡ Ok (to_be_bytes w64 (hash y)) =
    sym (decode_of-encode_lower (to_be_bytes w64 (hash x)) (bytes_are 8 (hash x))) ∙ ap decode_of same
    ∙ decode_of-encode_lower (to_be_bytes w64 (hash y)) (bytes_are 8 (hash y)) in cc) in
    hash-same seed x y seed_fits x_fits y_fits
    (sym (from_be_bytes-to_be_bytes_8 (hash x) (hash_of-lt (to_le_bytes w64 x) seed)) ∙ ap (from_be_bytes w64) bytes
    ∙ from_be_bytes-to_be_bytes_8 (hash y) (hash_of-lt (to_le_bytes w64 y) seed))

-- so no key comes twice
pub demo_keys-distinct : (count seed : ℕ) → seed < 2 ^ 64 → count ≤ 2 ^ 64 → AreDistinctKeys (demo_keys_of count seed)
demo_keys-distinct count seed seed_fits few i j before within same =
    let keys : ℕ → List ℕ = demo_key seed in
    let places : length (numbers_below count) ≡ count = length-numbers_below count in
    let all : length (demo_keys_of count seed) ≡ length (numbers_below count) = length-map (numbers_below count) keys in
    let at : (k : ℕ) → k < count → get_or (demo_keys_of count seed) k [] ≡ keys k =
    λ k below. get_or-map keys (numbers_below count) k 0 [] (omega arith) ∙ ap keys (get_or-numbers_below count k below) in
    let second : j < count = omega arith in
    let first : i < count = omega arith in
    let equal : i ≡ j = demo_key-same seed i j seed_fits (omega arith) (omega arith) (sym (at i first) ∙ same ∙ at j second) in
    absurd (omega arith)

-- no keys
pub demo_keys-none : (seed : ℕ) → demo_keys_of 0 seed ≡ []
unfolding numbers_below
demo_keys-none seed = refl

-- one key more
pub demo_keys-more : (count seed : ℕ) → demo_keys_of (count + 1) seed ≡ demo_keys_of count seed ++ demo_key seed count ∷ []
unfolding numbers_below
demo_keys-more count seed = ap (λ n. demo_keys_of n seed) (add-one count) ∙ map_push (demo_key seed) (numbers_below count) count

-- as many keys
pub length-demo_keys : (count seed : ℕ) → length (demo_keys_of count seed) ≡ count
length-demo_keys count seed = length-map (numbers_below count) (demo_key seed) ∙ length-numbers_below count
