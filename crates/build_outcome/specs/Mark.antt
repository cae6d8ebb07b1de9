-- The mark by which a list of keys is known again.
use Rattle.std.specs.Prelude.{ℕ, ◌%◌, ◌^◌, List, [], ◌∷◌, sum_by, bit_xor}
use Rattle.pthash.specs.Hash.{first_hash, second_hash}
use Rattle.build_outcome.specs.Index.{KeyMarkData}

-- the xor of the second hashes
abbrev pub xor_of : List (List ℕ) → ℕ → ℕ
xor_of [] seed = 0
xor_of (key ∷ keys) seed = bit_xor (second_hash key seed) (xor_of keys seed)

-- the mark of a list of keys at a seed
unfoldable pub mark_of : List (List ℕ) → ℕ → KeyMarkData
mark_of keys seed = record { sum = sum_by (λ key. first_hash key seed) keys % 2 ^ 64; xor = xor_of keys seed }
