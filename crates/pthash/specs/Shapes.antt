-- How full the tables are, and how many buckets there are.
use Rattle.std.specs.Prelude.{ℕ, ◌≤◌}
use Rattle.pthash.specs.declared.TheConstants.{MIN_ALPHA, MAX_ALPHA, MIN_C, MAX_C}
use Rattle.pthash.specs.declared.Map.{Map}

-- alpha in percent of a table, c in hundredths of the keys over their logarithm, and how hashes are spread over buckets
pub record ShapeData : Type 0 where
  pub alpha : ℕ
  pub c : ℕ
  pub map : Map

-- both numbers are in their ranges
pub record IsShape (shape : ShapeData) : Type 0 where
  pub alpha_low : MIN_ALPHA ≤ shape.alpha
  pub alpha_high : shape.alpha ≤ MAX_ALPHA
  pub c_low : MIN_C ≤ shape.c
  pub c_high : shape.c ≤ MAX_C
