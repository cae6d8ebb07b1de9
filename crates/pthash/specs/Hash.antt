-- MurmurHash64A, after Austin Appleby: a fold over the whole blocks of eight bytes, then the bytes that are left over, then a last mixing.
use Rattle.std.specs.Prelude.{ℕ, zero, suc, ◌+◌, ◌*◌, ◌/◌, ◌%◌, ◌^◌, List, [], ◌∷◌, length, take, drop, fold, bit_xor}
use Rattle.std.specs.Int.{w64, bit_not, to_le_bytes}
use Rattle.pthash.specs.declared.TheConstants.{MULTIPLIER}

-- the product of two numbers modulo 2 ^ 64
abbrev pub product : ℕ → ℕ → ℕ
product x y = (x * y) % 2 ^ 64

-- a number mixed with its own bits from the 47th on
abbrev pub folded : ℕ → ℕ
folded x = bit_xor x (x / 2 ^ 47)

-- the number that the bytes spell, the lowest first
abbrev pub number_of : List ℕ → ℕ
number_of [] = 0
number_of (b ∷ bs) = b + 256 * number_of bs

-- the first n blocks of eight bytes, each as a number
unfoldable pub blocks_of : ℕ → List ℕ → List ℕ
blocks_of zero bytes = []
blocks_of (suc n) bytes = number_of (take 8 bytes) ∷ blocks_of n (drop 8 bytes)

-- the state before any byte
abbrev pub first_state : ℕ → ℕ → ℕ
first_state seed len = bit_xor seed (product len MULTIPLIER)

-- the state after one more block
abbrev pub after_block : ℕ → ℕ → ℕ
after_block h block = product (bit_xor h (product (folded (product block MULTIPLIER)) MULTIPLIER)) MULTIPLIER

-- the state after the bytes that fill no block
abbrev pub after_rest : ℕ → List ℕ → ℕ
after_rest h [] = h
after_rest h (b ∷ bs) = product (bit_xor h (number_of (b ∷ bs))) MULTIPLIER

-- the last mixing
abbrev pub last_mixing : ℕ → ℕ
last_mixing h = folded (product (folded h) MULTIPLIER)

-- MurmurHash64A of the bytes at a seed
unfoldable pub hash_of : List ℕ → ℕ → ℕ
hash_of bytes seed =
    let n = length bytes / 8 in
    let state = fold after_block (first_state seed (length bytes)) (blocks_of n bytes) in
    last_mixing (after_rest state (drop (8 * n) bytes))

-- the first hash of a key, which gives its bucket
abbrev pub first_hash : List ℕ → ℕ → ℕ
first_hash key seed = hash_of key seed

-- the second hash of a key, which gives its positions: the hash at the seed with all its bits flipped
abbrev pub second_hash : List ℕ → ℕ → ℕ
second_hash key seed = hash_of key (bit_not w64 seed)

-- the hash of a pilot, as a number of eight bytes
unfoldable pub pilot_hash : ℕ → ℕ → ℕ
pilot_hash pilot seed = hash_of (to_le_bytes w64 pilot) seed
