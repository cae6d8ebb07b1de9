-- The keys of a text.
use Rattle.std.specs.Prelude.{◌≡◌, ◌==◌, ℕ, ◌<◌, ◌≤◌, nat_lt, Bool, true, if◌then◌else◌}
use Rattle.std.specs.Prelude.{List, [], ◌∷◌, length, take, slice_index, Option, None}
use Rattle.std.specs.List.{slice_split, position_from}
use Rattle.pth_outside.specs.declared.TheConstants.{LINE_FEED, LONGEST_KEY}

-- the pieces, without the last one where that is empty
abbrev pub without_empty_last : List (List ℕ) → List (List ℕ)
without_empty_last [] = []
without_empty_last (piece ∷ []) = if length piece == 0 then [] else piece ∷ []
without_empty_last (piece ∷ next ∷ more) = piece ∷ without_empty_last (next ∷ more)

-- the keys of a text: its pieces between line feeds, the last one only where it isn't empty
unfoldable pub keys_of : List ℕ → List (List ℕ)
keys_of text = without_empty_last (slice_split (λ b. b == LINE_FEED) text)

-- no byte of the line is a line feed
abbrev pub HasNoFeed : List ℕ → Type 0
HasNoFeed line = (k : ℕ) → 0 ≤ k → k < length line → ¬ ((slice_index line k == LINE_FEED) ≡ true)

-- a line has more bytes than a key may have
abbrev pub is_too_long : List ℕ → Bool
is_too_long line = nat_lt LONGEST_KEY (length line)

-- the number, counted from 1, of the first line that is too long
abbrev pub first_too_long : List (List ℕ) → Option ℕ
first_too_long lines = position_from is_too_long 1 lines

-- there are more lines than that, and none of the first ones is too long
pub record AreTooMany (most : ℕ) (lines : List (List ℕ)) : Type 0 where
  pub more : most < length lines
  pub short : first_too_long (take most lines) ≡ None
