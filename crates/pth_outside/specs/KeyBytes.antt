-- A list of keys as one run of bytes and the places where they end.
use Rattle.std.specs.Prelude.{◌≡◌, ℕ, zero, suc, slice_index, ◌+◌, ◌-◌, ◌≤◌, List, [], ◌∷◌, take, drop}
use Rattle.pth_outside.specs.declared.TheConstants.{LONGEST_KEY}

-- the keys from a place on, cut at their ends
abbrev pub cut_at : ℕ → List ℕ → List ℕ → List (List ℕ)
cut_at start [] bytes = []
cut_at start (end ∷ ends) bytes = take (end - start) (drop start bytes) ∷ cut_at end ends bytes

-- the ends don't fall, no two are further apart than the longest key, and the last is that of the bytes
abbrev pub AreEnds : ℕ → List ℕ → ℕ → Type 0
AreEnds start [] len = start ≡ len
AreEnds start (end ∷ ends) len = (start ≤ end) × (end ≤ start + LONGEST_KEY) × AreEnds end ends len

-- where a key begins: at the end of the one before it
abbrev pub begin_at : ℕ → List ℕ → ℕ → ℕ
begin_at start ends zero = start
begin_at start ends (suc i) = slice_index ends i
