-- Keys of a list that have the same pair of hashes at a seed.
use Rattle.std.specs.Prelude.{ℕ, Bool, ◌&&◌, ◌==◌, List, [], length, slice_index_or, Option, Some, None, is_some}
use Rattle.pthash.specs.Hash.{first_hash, second_hash}
use Rattle.pthash.specs.Search.{least_below}

-- the key at a place
abbrev pub key_at : List (List ℕ) → ℕ → List ℕ
key_at keys place = slice_index_or keys place []

-- whether the keys at two places have the same pair of hashes
abbrev pub is_twin : List (List ℕ) → ℕ → ℕ → ℕ → Bool
is_twin keys seed j i =
    first_hash (key_at keys i) seed == first_hash (key_at keys j) seed
    && second_hash (key_at keys i) seed == second_hash (key_at keys j) seed

-- the first key that has the same pair as the one at this place, before it
abbrev pub earlier_twin : List (List ℕ) → ℕ → ℕ → Option ℕ
earlier_twin keys seed j = least_below (is_twin keys seed j) j

-- a place and its earlier twin, as (the twin's place, the place)
abbrev pub with_twin : ℕ → Option ℕ → Option (ℕ × ℕ)
with_twin j None = None
with_twin j (Some i) = Some (i, j)

-- the same for a place that may not be there
abbrev pub twins_at : List (List ℕ) → ℕ → Option ℕ → Option (ℕ × ℕ)
twins_at keys seed None = None
twins_at keys seed (Some j) = with_twin j (earlier_twin keys seed j)

-- the first key that has an earlier twin, and its first twin, as (the twin's place, the key's place)
unfoldable pub clash_of : List (List ℕ) → ℕ → Option (ℕ × ℕ)
clash_of keys seed = twins_at keys seed (least_below (λ j. is_some (earlier_twin keys seed j)) (length keys))
