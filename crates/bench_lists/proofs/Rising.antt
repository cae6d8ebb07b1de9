-- A list that doesn't fall, one value longer.
use Rattle.std.proofs.Common.{◌≡◌, ℕ, ◌≤◌, true, List, [], ◌∷◌, ◌++◌, refl, arith}
use Rattle.std.specs.Prelude.{nat_le}
use Rattle.std.proofs.lemmas.Bool.{and_parts, and_from, le-leb}
use Rattle.elias_fano.specs.Spelling.{rises, last_of}

-- nothing rises
pub rises-none : rises 0 [] ≡ true
unfolding rises
rises-none = refl

-- without values the bound is the last
pub last_of-none : last_of 0 [] ≤ 0
unfolding last_of
last_of-none = omega arith

-- a value from the last one on may follow
pub rises-push : (least : ℕ) (vs : List ℕ) (v : ℕ) → rises least vs ≡ true → last_of least vs ≤ v → rises least (vs ++ v ∷ []) ≡ true
unfolding rises last_of
rises-push least [] v up more = and_from (nat_le least v) true (le-leb least v more) refl
rises-push least (x ∷ vs) v up more =
    let parts = and_parts (nat_le least x) (rises x vs) up in
    and_from (nat_le least x) (rises x (vs ++ v ∷ [])) parts.0 (rises-push x vs v parts.1 more)

-- what follows is the last
pub last_of-push : (least : ℕ) (vs : List ℕ) (v : ℕ) → last_of least (vs ++ v ∷ []) ≡ v
unfolding last_of
last_of-push least [] v = refl
last_of-push least (x ∷ vs) v = last_of-push x vs v
