-- What a check of an index against the lines of a list comes to.
use Rattle.std.specs.Prelude.{ℕ, ◌+◌, ◌==◌, ◌&&◌, nat_lt, Bool, false, List, [], ◌∷◌, ◌++◌, length}
use Rattle.std.specs.Prelude.{Option, Some, None, option_map, if◌then◌else◌}
use Rattle.std.specs.List.{position_from}
use Rattle.std.specs.Option.{unwrap_or}
use Rattle.pth_outside.specs.Keys.{is_too_long}
use Rattle.build_outcome.specs.Index.{KeyMarkData, IndexData}
use Rattle.build_outcome.specs.Mark.{mark_of}
use Rattle.build_outcome.specs.Values.{value_of}
use Rattle.key_check.specs.declared.checked.Checked.{Checked}
use Rattle.key_check.specs.declared.checked.Checked.TheVariants.{Good, TooLong, NoValue, Repeats, Counts, Differs}

-- a value is this number
abbrev pub is_number : ℕ → Option ℕ → Bool
is_number v None = false
is_number v (Some w) = w == v

-- the number, counted from 1, of the first of some lines that has this value
abbrev pub first_with : IndexData → ℕ → List (List ℕ) → Option ℕ
first_with x v lines = position_from (λ line. is_number v (value_of x line)) 1 lines

-- how a line with this value ends the check after these lines: it has none, or an earlier line has it
abbrev pub fault_of_value : IndexData → List (List ℕ) → Option ℕ → Option Checked
fault_of_value x before None = Some (NoValue (length before + 1))
fault_of_value x before (Some v) = option_map (λ earlier. Repeats (length before + 1) earlier) (first_with x v before)

-- how a line ends the check after these lines, if it does
abbrev pub fault_of_line : IndexData → List (List ℕ) → List ℕ → Option Checked
fault_of_line x before line =
    if is_too_long line then Some (TooLong (length before + 1)) else fault_of_value x before (value_of x line)

-- two marks are the same
abbrev pub is_same_mark : KeyMarkData → KeyMarkData → Bool
is_same_mark kept counted = (kept.sum == counted.sum) && (kept.xor == counted.xor)

-- the mark that was counted beside the one that the index keeps, if it keeps one
abbrev pub compared : Option KeyMarkData → KeyMarkData → Checked
compared None counted = Good counted
compared (Some kept) counted = if is_same_mark kept counted then Good counted else Differs kept counted

-- what the check comes to after the last of these lines
abbrev pub after_all : IndexData → List (List ℕ) → Checked
after_all x lines =
    if nat_lt (length lines) x.n then Counts x.n (length lines) else compared x.mark (mark_of lines x.seed)

-- what the check comes to over the lines that are left, after others that didn't end it
abbrev pub checked_from : IndexData → List (List ℕ) → List (List ℕ) → Checked
checked_from x before [] = after_all x before
checked_from x before (line ∷ left) = unwrap_or (fault_of_line x before line) (checked_from x (before ++ line ∷ []) left)

-- what the check of all lines comes to: the first line that ends it decides
unfoldable pub checked : IndexData → List (List ℕ) → Checked
checked x lines = checked_from x [] lines
