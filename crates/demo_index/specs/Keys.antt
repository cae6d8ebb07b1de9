-- The keys of a demonstration.
use Rattle.std.specs.Prelude.{ℕ, List, map}
use Rattle.std.specs.Int.{w64, to_le_bytes, to_be_bytes}
use Rattle.hex.specs.Hex.{encode_lower}
use Rattle.pthash.specs.Hash.{hash_of}
use Rattle.pthash.specs.Order.{numbers_below}

-- the key with a number at a seed: the hash of its eight little-endian bytes, in 16 lower-case hexadecimal digits
unfoldable pub demo_key : ℕ → ℕ → List ℕ
demo_key seed number = encode_lower (to_be_bytes w64 (hash_of (to_le_bytes w64 number) seed))

-- the keys with the numbers below count at a seed
abbrev pub demo_keys_of : ℕ → ℕ → List (List ℕ)
demo_keys_of count seed = map (demo_key seed) (numbers_below count)
