-- The definitions of the sizes, case by case.
use Rattle.std.proofs.Common.{◌≡◌, ℕ, zero, suc, ◌+◌, ◌*◌, ◌/◌, ◌^◌, ◌<◌, ◌≤◌, Bool, true, false, cond, max, refl}
use Rattle.std.proofs.Common.{sym, ap, ◌∙◌, arith}
use Rattle.std.proofs.Math.Nat.{zero-div, zero-mod, mul-zero, one-le-pow, pow-suc}
use Rattle.std.proofs.lemmas.Bool.{lt-ltb, le-ltb}
use Rattle.std.specs.Int.{div_ceil, is_power_of_two}
use Rattle.pthash.specs.Sizes.{halvings, floor_log2, table_size_of, bucket_count_of}

-- a power of two is raised
pub table_size_of-power : (n alpha size : ℕ) → size ≡ div_ceil (100 * n) alpha → is_power_of_two size ≡ true
    → size + 1 ≡ table_size_of n alpha
unfolding table_size_of
table_size_of-power n alpha size is power =
    ap (λ (b : Bool). cond b (size + 1) size) (sym power)
    ∙ ap (λ (s : ℕ). cond (is_power_of_two s) (s + 1) s) is

-- any other size stays
pub table_size_of-other : (n alpha size : ℕ) → size ≡ div_ceil (100 * n) alpha → is_power_of_two size ≡ false
    → size ≡ table_size_of n alpha
unfolding table_size_of
table_size_of-other n alpha size is other =
    ap (λ (b : Bool). cond b (size + 1) size) (sym other)
    ∙ ap (λ (s : ℕ). cond (is_power_of_two s) (s + 1) s) is

-- the number of halvings is the exponent of the greatest power of two that is not above n
halvings-log : (most e n : ℕ) → 2 ^ e ≤ n → n < 2 * 2 ^ e → e ≤ most → halvings most n ≡ e
unfolding halvings
halvings-log zero e n low high few = omega arith
halvings-log (suc most) zero n low high few = rw (lt-ltb n 2 (omega arith)) refl
halvings-log (suc most) (suc e) n low high few =
    let twice = pow-suc 2 e in
    let some = one-le-pow e 2 (omega arith) in
    rw (le-ltb n 2 (omega arith)) (ap suc (halvings-log most e (n / 2) (omega arith) (omega arith) (omega arith)))

-- the logarithm that is computed is the one of the definition
pub floor_log2-is : (e n : ℕ) → 2 ^ e ≤ n → n < 2 * 2 ^ e → e < 64 → floor_log2 n ≡ e
floor_log2-is e n low high few = halvings-log 64 e n low high (omega arith)

-- nothing divided is nothing
div_ceil-none : (y : ℕ) → 0 ≡ div_ceil 0 y
div_ceil-none y = rw (zero-div y, zero-mod y) refl

-- no keys have no buckets
pub bucket_count_of-none : (n c : ℕ) → n ≡ 0 → 0 ≡ bucket_count_of n c
unfolding bucket_count_of
bucket_count_of-none n c none =
    let y = 100 * max 1 (floor_log2 n) in
    let keys : c * n ≡ 0 = ap (λ (x : ℕ). c * x) none ∙ mul-zero c in
    div_ceil-none y ∙ ap (λ (x : ℕ). div_ceil x y) (sym keys)

-- the buckets of some keys, by the logarithm that is computed
pub bucket_count_of-some : (n c e : ℕ) → 2 ^ e ≤ n → n < 2 * 2 ^ e → e < 64
    → div_ceil (c * n) (100 * max e 1) ≡ bucket_count_of n c
unfolding bucket_count_of
bucket_count_of-some n c e low high few =
    ap (λ (g : ℕ). div_ceil (c * n) (100 * g)) (omega arith)
    ∙ ap (λ (g : ℕ). div_ceil (c * n) (100 * max 1 g)) (sym (floor_log2-is e n low high few))
