-- The quotient by a reciprocal of 64 bits.
use Rattle.std.proofs.Common.{◌≡◌, ℕ, ◌+◌, ◌*◌, ◌-◌, ◌/◌, ◌%◌, ◌<◌, ◌≤◌, sym, ap, ◌∙◌, arith}
use Rattle.std.proofs.Math.Nat.{div-add-mod, mod-lt, mul-le-mul_left, mod-eq_of_lt, mul_comm, add-mul-mod_self_left}

-- the quotient q of x * v by 2 ^ 64, where v is the reciprocal of n: n * q is at most x, and above x - 2 * n
near : (x n v s q r : ℕ) → n * v + s ≡ 18446744073709551615 → s + 1 ≤ n → 18446744073709551616 * q + r ≡ x * v → r < 18446744073709551616 →
    x < 18446744073709551616
    → (n * q ≤ x) × (x < n * q + 2 * n)
near x n v s q r reciprocal s_small quotient r_small x_small =
    let f1 : n * (18446744073709551616 * q + r) ≡ n * (x * v) = ap (λ k. n * k) quotient in
    let f2 : x * (n * v + s) ≡ x * 18446744073709551615 = ap (λ k. x * k) reciprocal in
    let b1 : n * (r + 1) ≤ n * 18446744073709551616 = mul-le-mul_left n (omega arith) in
    let b2 : x * (s + 1) ≤ x * n = mul-le-mul_left x s_small in
    let b3 : n * (x + 1) ≤ n * 18446744073709551616 = mul-le-mul_left n (omega arith) in
    (omega arith, omega arith)

-- the same of the quotient that the code computes
pub quotient_near : (x n v : ℕ) → 1 ≤ n → v ≡ 18446744073709551615 / n → x < 18446744073709551616
    → (x * v / 18446744073709551616 * n ≤ x) × (x < x * v / 18446744073709551616 * n + 2 * n)
quotient_near x n v positive exact x_small =
    let q : ℕ = x * v / 18446744073709551616 in
    let reciprocal : n * v + 18446744073709551615 % n ≡ 18446744073709551615 = ap (λ k. n * k + 18446744073709551615 % n) exact
    ∙ div-add-mod 18446744073709551615 n in
    let s_small : 18446744073709551615 % n + 1 ≤ n = omega (arith, mod-lt 18446744073709551615 {m = n} positive) in
    let both = near x n v (18446744073709551615 % n) q (x * v % 18446744073709551616) reciprocal s_small (div-add-mod (x * v) 18446744073709551616)
    (mod-lt (x * v) {m = 18446744073709551616} (omega arith)) x_small in
    (omega (arith, both.0, mul_comm q n), omega (arith, both.1, mul_comm q n))

-- a remainder below the divisor is the remainder
unique : (x n q r : ℕ) → x ≡ r + n * q → r < n → x % n ≡ r
unique x n q r is below = ap (λ k. k % n) is ∙ add-mul-mod_self_left r n q ∙ mod-eq_of_lt below

-- what is left over a quotient is the remainder where it is below the divisor
pub rest_below : (x n q : ℕ) → q * n ≤ x → x - q * n < n → x - q * n ≡ x % n
rest_below x n q fits below = sym (unique x n q (x - q * n) (omega (arith, mul_comm q n)) below)

-- where it is not, the quotient is one too small
pub rest_above : (x n q : ℕ) → q * n ≤ x → x < q * n + 2 * n → n ≤ x - q * n → x - q * n - n ≡ x % n
rest_above x n q fits near above = sym (unique x n (q + 1) (x - q * n - n) (omega (arith, mul_comm q n)) (omega arith))
