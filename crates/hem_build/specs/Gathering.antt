-- What pieces of a list, each cut by partition, have of each partition.
use Rattle.std.specs.Prelude.{ℕ, List, [], ◌∷◌, ◌++◌, map, slice_index_or}
use Rattle.pthash.specs.declared.Record.{Record}
use Rattle.pthash.specs.Order.{numbers_below}

-- the records that the pieces have of a partition
abbrev pub gathered : List (List (List Record)) → ℕ → List Record
gathered [] part = []
gathered (piece ∷ pieces) part = slice_index_or piece part [] ++ gathered pieces part

-- those of each partition
abbrev pub all_gathered : List (List (List Record)) → ℕ → List (List Record)
all_gathered pieces parts = map (gathered pieces) (numbers_below parts)
