-- The pilots of a search by the numbers of their buckets.
use Rattle.std.specs.Prelude.{ℕ, List, [], ◌∷◌, map, ◌==◌, if◌then◌else◌}
use Rattle.pthash.specs.Order.{Bucket, numbers_below}

-- the pilot of the bucket with this number, or 0 where no bucket has it
abbrev pub pilot_by_number : List Bucket → List ℕ → ℕ → ℕ
pilot_by_number [] pilots number = 0
pilot_by_number (bucket ∷ buckets) [] number = 0
pilot_by_number (bucket ∷ buckets) (pilot ∷ pilots) number =
    if bucket.number == number then pilot else pilot_by_number buckets pilots number

-- the pilots of m buckets by number, from the pilots by rank; an empty bucket has pilot 0
unfoldable pub pilots_by_number : List Bucket → List ℕ → ℕ → List ℕ
pilots_by_number buckets pilots m = map (pilot_by_number buckets pilots) (numbers_below m)
