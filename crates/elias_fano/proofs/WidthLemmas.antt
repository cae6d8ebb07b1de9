-- How many low bits stand apart.
use Rattle.std.proofs.Common.{◌≡◌, ℕ, zero, suc, ◌+◌, ◌*◌, ◌/◌, ◌^◌, ◌<◌, ◌≤◌, max, refl, ap, ◌∙◌, inl, inr, arith}
use Rattle.std.proofs.Math.Nat.{pow-suc, lt-mul-div-succ, div-le_of_le-mul}
use Rattle.std.proofs.lemmas.Bool.{cases_lt, cases_eq, lt-ltb, le-ltb, eq-eqb, ne_eqb}
use Rattle.std.proofs.lemmas.Nat.{pow_pos, mul-le}
use Rattle.elias_fano.specs.Spelling.{log2_within, low_width}

-- the logarithm is the exponent between whose powers a number stands
pub log2_is : (most n r : ℕ) → n < 2 ^ suc most → 2 ^ r ≤ n → n < 2 * 2 ^ r → log2_within most n ≡ r
unfolding log2_within
log2_is zero n zero small low high = refl
log2_is zero n (suc r) small low high = absurd (omega (arith, pow-suc 2 r, pow_pos r, pow-suc 2 0))
log2_is (suc most) n zero small low high = rw (lt-ltb n 2 (omega arith)) refl
log2_is (suc most) n (suc r) small low high =
    let p = pow-suc 2 r in
    let q = pow-suc 2 (suc most) in
    rw (le-ltb n 2 (omega (arith, p, pow_pos r))) (ap (λ (x : ℕ). x + 1) (log2_is most (n / 2) r (omega (arith, q)) (omega (arith, p)) (omega (arith, p)))
    ∙ omega arith)

-- the logarithm is at most its bound
pub log2-le : (most n : ℕ) → log2_within most n ≤ most
unfolding log2_within
log2-le zero n = omega arith
log2-le (suc most) n =
    elim (cases_lt n 2) [
      | inl lt ↦ rw (lt-ltb n 2 lt) (omega arith)
      | inr le ↦ rw (le-ltb n 2 le) (omega (arith, log2-le most (n / 2)))
    ]

-- an empty list has no low bits
pub low_width-none : (count last : ℕ) → count ≡ 0 → low_width count last ≡ 0
unfolding low_width
low_width-none count last e = rw (eq-eqb count 0 e) refl

-- steps below one have no low bits
pub low_width-small : (count last : ℕ) → last / count ≡ 0 → low_width count last ≡ 0
unfolding low_width
low_width-small count last e =
    elim (cases_eq count 0) [
      | inl none ↦ rw (eq-eqb count 0 none) refl
      | inr some ↦ rw (ne_eqb count 0 some, e) (log2_is 63 1 0 (omega arith) (omega arith) (omega arith))
    ]

-- otherwise the width is the logarithm of the mean step
pub low_width-is : (count last r : ℕ) → (count ≡ 0 → ⊥) → last < 2 ^ 64 → (last / count ≡ 0 → ⊥) → 2 ^ r ≤ last / count →
    last / count < 2 * 2 ^ r →
    low_width count last ≡ r
unfolding low_width
low_width-is count last r some small large low high =
    let most : max 1 (last / count) ≡ last / count = omega arith in
    let fits : last / count < 2 ^ suc 63 = omega (arith, Rattle.std.proofs.Math.Nat.div-le_self last count) in
    rw (ne_eqb count 0 some, most) (log2_is 63 (last / count) r fits low high)

-- the width is at most 63
pub low_width-le : (count last : ℕ) → low_width count last ≤ 63
unfolding low_width
low_width-le count last =
    elim (cases_eq count 0) [
      | inl none ↦ rw (eq-eqb count 0 none) (omega arith)
      | inr some ↦ rw (ne_eqb count 0 some) (log2-le 63 (max 1 (last / count)))
    ]

-- few values of high bits
pub few_high : (count last r : ℕ) → 0 < count → last / count < 2 * 2 ^ r → last / 2 ^ r ≤ 2 * count
few_high count last r some high =
    let below : last < count * (last / count + 1) = lt-mul-div-succ last some in
    let more = mul-le count (last / count + 1) count (2 * 2 ^ r) (omega arith) (omega arith) in
    div-le_of_le-mul (2 ^ r) (omega (arith, below, more))

-- without low bits the high part is below the count
pub few_high-small : (count last : ℕ) → 0 < count → last / count ≡ 0 → last / 2 ^ 0 ≤ 2 * count
few_high-small count last some e = few_high count last 0 some (omega (arith, e))

-- a number is below the next power of two
log2-above : (most n : ℕ) → n < 2 ^ suc most → n < 2 * 2 ^ log2_within most n
unfolding log2_within
log2-above zero n lt = omega (arith, lt, pow-suc 2 0)
log2-above (suc most) n lt =
    elim (cases_lt n 2) [
      | inl small ↦ rw (lt-ltb n 2 small) (omega (arith, small))
      | inr more ↦
          let half = log2-above most (n / 2) (omega (arith, pow-suc 2 (suc most), lt)) in
          let r = log2_within most (n / 2) in
          let next : 2 ^ (r + 1) ≡ 2 ^ suc r = ap (λ (j : ℕ). 2 ^ j) (omega arith) in
          rw (le-ltb n 2 more) (omega (arith, half, next, pow-suc 2 r))
    ]

-- few digits stand above the low bits
pub high-few : (count last : ℕ) → 0 < count → last < 2 ^ 64 → last / 2 ^ low_width count last ≤ 2 * count
unfolding low_width
high-few count last some fits =
    let most : max 1 (last / count) < 2 ^ suc 63 = omega (arith, Rattle.std.proofs.Math.Nat.div-le_self last count) in
    let above = log2-above 63 (max 1 (last / count)) most in
    rw (ne_eqb count 0 (λ e. omega (arith, e))) (few_high count last (log2_within 63 (max 1 (last / count))) some (omega (arith, above)))
