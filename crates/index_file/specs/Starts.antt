-- How many keys come before each partition.
use Rattle.std.specs.Prelude.{ℕ, ◌+◌, List, [], ◌∷◌}

-- the sums of the numbers before each, from a first sum on
unfoldable pub starts_from : ℕ → List ℕ → List ℕ
starts_from before [] = []
starts_from before (n ∷ counts) = before ∷ starts_from (before + n) counts
