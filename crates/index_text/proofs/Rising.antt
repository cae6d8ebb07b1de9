-- Lists that don't fall, as a test and as a property.
use Rattle.std.specs.Prelude.{◌≡◌, ℕ, zero, suc, ◌^◌, ◌<◌, ◌≤◌, true, List, [], ◌∷◌, length, All}
use Rattle.std.specs.List.Sorted.{IsNonDecreasing}
use Rattle.std.proofs.Common.{get_or, refl, ◌∙◌, arith}
use Rattle.std.proofs.lemmas.List.Elements.{All-head, All-tail}
use Rattle.std.proofs.lemmas.List.Sorted.{IsNonDecreasingBy-from_default}
use Rattle.pthash.specs.declared.TheConstants.{MAX_KEYS}
use Rattle.elias_fano.specs.Spelling.{rises, last_of, IsRising}
use Rattle.elias_fano.proofs.CallerLemmas.{rises-yes, rises-parts}

-- no value is below the bound
rises-le : (d : ℕ) (vs : List ℕ) (j : ℕ) → rises d vs ≡ true → j < length vs → d ≤ get_or vs j 0
rises-le d [] j up within = absurd (omega arith)
rises-le d (v ∷ vs) zero up within = (rises-parts d v vs up).0
rises-le d (v ∷ vs) (suc j) up within =
    let p = rises-parts d v vs up in omega (arith, p.0, rises-le v vs j p.1 (omega arith))

-- no value is below an earlier one
rises-at : (d : ℕ) (vs : List ℕ) (i j : ℕ) → rises d vs ≡ true → i ≤ j → j < length vs → get_or vs i 0 ≤ get_or vs j 0
rises-at d [] i j up before within = absurd (omega arith)
rises-at d (v ∷ vs) zero zero up before within = omega arith
rises-at d (v ∷ vs) zero (suc j) up before within = rises-le v vs j (rises-parts d v vs up).1 (omega arith)
rises-at d (v ∷ vs) (suc i) zero up before within = absurd (omega arith)
rises-at d (v ∷ vs) (suc i) (suc j) up before within = rises-at v vs i j (rises-parts d v vs up).1 (omega arith) (omega arith)

-- what rises doesn't fall
pub rises-IsNonDecreasing : (vs : List ℕ) → rises 0 vs ≡ true → IsNonDecreasing vs
rises-IsNonDecreasing vs up = IsNonDecreasingBy-from_default (λ (x : ℕ). x) vs 0 (λ i j before within. rises-at 0 vs i j up before within)

-- what doesn't fall rises from any bound that its first value is not below
rises-from : (d : ℕ) (vs : List ℕ) → IsNonDecreasing vs → (0 < length vs → d ≤ get_or vs 0 0) → rises d vs ≡ true
unfolding rises
rises-from d [] up first = refl
rises-from d (v ∷ vs) up first =
    rises-yes d v vs (first (omega arith))
    ∙ rises-from v vs (λ i j e before within. up (suc i) (suc j) e (omega arith) (omega arith)) (λ some. up 0 1 0 (omega arith) (omega arith))

-- the last value is below a bound that all are below
last_of-lt : (d : ℕ) (vs : List ℕ) (bound : ℕ) → d < bound → All (λ v. v < bound) vs → last_of d vs < bound
unfolding last_of
last_of-lt d [] bound first below = first
last_of-lt d (v ∷ vs) bound first below =
    last_of-lt v vs bound (All-head (λ x. x < bound) v vs below) (All-tail (λ x. x < bound) v vs below)

-- a list that doesn't fall, of values below a number of keys, has a spelling
pub IsRising-below : (vs : List ℕ) (n : ℕ) → IsNonDecreasing vs → All (λ v. v < n) vs → 1 ≤ n → n ≤ MAX_KEYS →
    length vs ≤ 2 ^ 36 → IsRising vs
IsRising-below vs n up below some few short =
    record { rising = rises-from 0 vs up (λ some. omega arith); fits = omega (arith, last_of-lt 0 vs n (omega arith) below); few = short }
