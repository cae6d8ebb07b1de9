-- The keys of a list as the search sees them.
use Rattle.std.specs.Prelude.{ℕ, ◌+◌, List, [], ◌∷◌}
use Rattle.pthash.specs.declared.Record.{Record}
use Rattle.pthash.specs.Hash.{first_hash, second_hash}

-- the records of keys whose places in the list begin with this one
abbrev pub records_from : ℕ → List (List ℕ) → ℕ → List Record
records_from place [] seed = []
records_from place (key ∷ keys) seed =
    record { a = first_hash key seed; b = second_hash key seed; ordinal = place } ∷ records_from (place + 1) keys seed

-- the records of a list of keys at a seed
abbrev pub records_of : List (List ℕ) → ℕ → List Record
records_of keys seed = records_from 0 keys seed
