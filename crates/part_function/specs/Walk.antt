-- How free positions are found one after another.
use Rattle.std.specs.Prelude.{◌≡◌, ℕ, ◌+◌, ◌<◌, ◌≤◌, Bool, true, false}
use Rattle.std.specs.Int.{bit_at}

-- the first free position from one on that is below the end, or the end where there is none
pub record IsNextFree (is_taken : ℕ → Bool) (from end next : ℕ) : Type 0 where
  pub from_on : from ≤ next
  pub within : next ≤ end
  pub before : (p : ℕ) → from ≤ p → p < next → is_taken p ≡ true
  pub free : next < end → is_taken next ≡ false

-- the bits of a word from a place on are set for so long, up to its end or to one that is not
pub record IsRunOfOnes (word place run : ℕ) : Type 0 where
  pub within : place + run ≤ 64
  pub ones : (j : ℕ) → j < run → bit_at word (place + j) ≡ 1
  pub next : place + run < 64 → bit_at word (place + run) ≡ 0
