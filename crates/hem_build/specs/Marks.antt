-- The mark of a list of keys, from its records.
use Rattle.std.specs.Prelude.{ℕ, ◌+◌, ◌%◌, ◌^◌, List, [], ◌∷◌, sum_by, bit_xor}
use Rattle.pthash.specs.declared.Record.{Record}
use Rattle.build_outcome.specs.Index.{KeyMarkData}

-- the xor of the second hashes
abbrev pub xor_by : List Record → ℕ
xor_by [] = 0
xor_by (r ∷ records) = bit_xor r.b (xor_by records)

-- the sum of the first hashes, which wraps, and the xor of the second ones
abbrev pub mark_by : List Record → KeyMarkData
mark_by records = record { sum = sum_by (λ r. r.a) records % 2 ^ 64; xor = xor_by records }

-- the mark of two lists together
abbrev pub added_marks : KeyMarkData → KeyMarkData → KeyMarkData
added_marks first second = record { sum = (first.sum + second.sum) % 2 ^ 64; xor = bit_xor first.xor second.xor }
