-- A list that doesn't fall is one that can be kept in few bits.
use Rattle.std.proofs.Common.{◌≡◌, ℕ, suc, ◌<◌, ◌≤◌, true, List, [], ◌∷◌, length, refl, ◌∙◌, arith}
use Rattle.std.specs.Prelude.{slice_index}
use Rattle.std.specs.List.Sorted.{IsNonDecreasing}
use Rattle.elias_fano.specs.Spelling.{rises}
use Rattle.elias_fano.proofs.CallerLemmas.{rises-yes}

-- no value is below an earlier one, nor the first below a bound
rises_above : (least : ℕ) (vs : List ℕ) → (0 < length vs → least ≤ slice_index vs 0) →
    ((i j : ℕ) → i ≤ j → j < length vs → slice_index vs i ≤ slice_index vs j) → rises least vs ≡ true
unfolding rises
rises_above least [] first rise = refl
rises_above least (v ∷ vs) first rise =
    rises-yes least v vs (first (omega arith))
    ∙ rises_above v vs (λ some. rise 0 1 (omega arith) (omega arith)) (λ i j before within. rise (suc i) (suc j) (omega arith) (omega arith))

-- the same of a whole list
pub rises-all : (vs : List ℕ) → IsNonDecreasing vs → rises 0 vs ≡ true
rises-all vs rise = rises_above 0 vs (λ some. omega arith) (λ i j before within. rise i j 0 before within)
