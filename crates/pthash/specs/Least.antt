-- What the least number that passes a test is, for those who know it by its properties.
use Rattle.std.specs.Prelude.{◌≡◌, ℕ, zero, suc, ◌<◌, ◌≤◌, Bool, true, false, Option, Some, None, if◌then◌else◌}
use Rattle.std.proofs.Common.{refl, sym, ap, ◌∙◌, subst, arith, ⊎_elim}
use Rattle.std.proofs.lemmas.Bool.{cases_lt}
use Rattle.std.specs.Option.{option_or}
use Rattle.pthash.specs.Search.{least_below, IsLeast}

-- where each number below n fails, none is found
pub least_below-none : (test : ℕ → Bool) (n : ℕ) → ((j : ℕ) → j < n → test j ≡ false) → least_below test n ≡ None
unfolding least_below
least_below-none test zero fails = refl
least_below-none test (suc n) fails =
    let earlier : least_below test n ≡ None = least_below-none test n (λ j below. fails j (omega arith)) in
    let last : test n ≡ false = fails n (omega arith) in
    rw earlier (rw last refl)

-- the least number that passes is found
pub least_below-found : (test : ℕ → Bool) (n k : ℕ) → IsLeast test n k → least_below test n ≡ Some k
unfolding least_below
least_below-found test zero k least = absurd (omega (arith, least.below))
least_below-found test (suc n) k least =
    ⊎_elim
    (λ (lower : k < n).
    let earlier : least_below test n ≡ Some k = least_below-found test n k (record { below = lower; passes = least.passes; first = least.first }) in
    rw earlier refl)
    (λ (last : n ≤ k).
    let same : k ≡ n = omega (arith, least.below) in
    let earlier : least_below test n ≡ None = least_below-none test n (λ j below. least.first j (omega arith)) in
    let passes : test n ≡ true = ap test (sym same) ∙ least.passes in
    rw earlier (rw passes (ap Some (sym same))))
    (cases_lt k n)

-- what a lower bound finds, a higher one finds too
pub IsLeast-stays : {test : ℕ → Bool} {n k : ℕ} (m : ℕ) → n ≤ m → IsLeast test n k → IsLeast test m k
IsLeast-stays m more least = record { below = omega (arith, least.below); passes = least.passes; first = least.first }

-- each number below n fails the test
pub record FailsBelow (test : ℕ → Bool) (n : ℕ) : Type 0 where
  pub fails : (j : ℕ) → j < n → test j ≡ false

-- what `least_below` answers, in words
abbrev pub IsAnswer : (ℕ → Bool) → ℕ → Option ℕ → Type 0
IsAnswer test n None = FailsBelow test n
IsAnswer test n (Some k) = IsLeast test n k

-- the answer below one number more
answer_more : (test : ℕ → Bool) (n : ℕ) (earlier : Option ℕ) (passes : Bool) → IsAnswer test n earlier → test n ≡ passes →
    IsAnswer test (suc n) (option_or earlier (if passes then Some n else None))
answer_more test n (Some k) passes earlier last = IsLeast-stays (suc n) (omega arith) earlier
answer_more test n None true earlier last =
    record { below = omega arith; passes = last; first = earlier.fails }
answer_more test n None false earlier last =
    record {
      fails = λ j lower.
          ⊎_elim (λ (l : j < n). earlier.fails j l) (λ (g : n ≤ j). let same : j ≡ n = omega arith in ap test same ∙ last) (cases_lt j n);
    }

-- it answers so
pub least_below-is_answer : (test : ℕ → Bool) (n : ℕ) → IsAnswer test n (least_below test n)
unfolding least_below
least_below-is_answer test zero = record { fails = λ j lower. absurd (omega arith) }
least_below-is_answer test (suc n) = answer_more test n (least_below test n) (test n) (least_below-is_answer test n) refl

-- what is found is the least
pub least_below-is_least : (test : ℕ → Bool) (n k : ℕ) → least_below test n ≡ Some k → IsLeast test n k
least_below-is_least test n k found = subst (IsAnswer test n) found (least_below-is_answer test n)

-- where none is found, each number below n fails
pub least_below-fails : (test : ℕ → Bool) (n : ℕ) → least_below test n ≡ None → (j : ℕ) → j < n → test j ≡ false
least_below-fails test n none = (let f : FailsBelow test n = subst (IsAnswer test n) none (least_below-is_answer test n) in f).fails
