-- What is kept of the lines that a check has walked.
use Rattle.std.specs.Prelude.{◌≡◌, ℕ, ◌+◌, ◌≤◌, ◌<◌, ◌==◌, ◌%◌, ◌^◌, Bool, not, List, map}
use Rattle.std.specs.Prelude.{length, slice_index_or, sum_by, bit_xor, if◌then◌else◌}
use Rattle.std.specs.Option.{unwrap_or}
use Rattle.pthash.specs.declared.TheConstants.{MAX_KEYS}
use Rattle.build_outcome.specs.Index.{KeyMarkData, IndexData}
use Rattle.build_outcome.specs.Mark.{mark_of}
use Rattle.key_check.specs.declared.walk.Walk.{Walk}
use Rattle.key_check.specs.Checked.{first_with}

-- a number of a line is one, 0 is none
abbrev pub one_if_some : ℕ → ℕ
one_if_some number = if number == 0 then 0 else 1

-- whether a number is that of a line
abbrev pub is_line : ℕ → Bool
is_line number = not (number == 0)

-- a mark with one line more, by its hashes
abbrev pub marked_by : KeyMarkData → ℕ → ℕ → KeyMarkData
marked_by mark a b = record { sum = (mark.sum + a) % 2 ^ 64; xor = bit_xor mark.xor b }

-- a walk has the seed of an index and a number for each value, of which as many are of lines as there are lines, and the bits tell which
pub record IsFor (x : IndexData) (walk : Walk) : Type 0 where
  pub seed : walk.seed ≡ x.seed
  pub size : length walk.numbers.items ≡ x.n
  pub seen : walk.seen ≡ map is_line walk.numbers.items
  pub filled : sum_by one_if_some walk.numbers.items ≡ walk.lines
  pub few : walk.lines ≤ MAX_KEYS

-- a walk has gone over these lines
pub record HasWalked (x : IndexData) (before : List (List ℕ)) (walk : Walk) : Type 0 where
  pub count : walk.lines ≡ length before
  pub first : (v : ℕ) → v < length walk.numbers.items → slice_index_or walk.numbers.items v 0 ≡ unwrap_or (first_with x v before) 0
  pub mark : walk.mark ≡ mark_of before x.seed
