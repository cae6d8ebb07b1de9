-- What is known of sizes, buckets and partitions.
use Rattle.std.specs.Prelude.{◌≡◌, ℕ, ◌+◌, ◌-◌, ◌*◌, ◌%◌, ◌^◌, ◌<◌, ◌≤◌, ◌⊎◌, true, false, cond, max, bit_xor}
use Rattle.std.proofs.Common.{inl, inr, refl, ap, ◌∙◌, subst, arith}
use lib.Count.{ones}
use Rattle.std.specs.Int.{div_ceil, is_power_of_two}
use Rattle.std.proofs.Math.Nat.{mod-lt, zero-div, zero-mod, mul-zero, div-lt_iff_lt-mul, mul-le-mul_right, mul-le-mul_left, mul-pos}
use Rattle.std.proofs.lemmas.Bool.{cases_lt, lt-ltb, le-ltb}
use Rattle.std.proofs.lemmas.Grind.{div_ceil_times}
use Rattle.std.proofs.lemmas.Nat.{xor_lt}
use Rattle.pthash.specs.declared.TheConstants.{FRONT_HASHES, MIN_ALPHA, MAX_ALPHA, MIN_C, MAX_C, MAX_KEYS, MAX_POSITIONS, MAX_BUCKETS}
use Rattle.pthash.specs.declared.Map.{Map}
use Rattle.pthash.specs.declared.Map.TheVariants.{Skewed, Uniform}
use Rattle.pthash.specs.Sizes.{floor_log2, table_size_of, bucket_count_of, front_count_of, skewed_bucket_of, bucket_of, partition_of}

-- a front hash goes to a front bucket, if there is one
pub skewed_bucket_of-front : (a m front : ℕ) → front ≡ front_count_of m → a < FRONT_HASHES → 0 < front → a % front ≡ skewed_bucket_of a m
unfolding skewed_bucket_of
skewed_bucket_of-front a m front is low some =
    let present : 0 < front_count_of m = omega arith in
    rw (lt-ltb a FRONT_HASHES low, lt-ltb 0 (front_count_of m) present) (ap (λ (f : ℕ). a % f) is)

-- any other hash goes to a back bucket
pub skewed_bucket_of-back : (a m front : ℕ) → front ≡ front_count_of m → ((a < FRONT_HASHES) × (front ≤ 0)) ⊎ (FRONT_HASHES ≤ a)
    → front + a % (m - front) ≡ skewed_bucket_of a m
unfolding skewed_bucket_of
skewed_bucket_of-back a m front is (inl low) =
    let absent : front_count_of m ≤ 0 = omega arith in
    rw (lt-ltb a FRONT_HASHES low.0, le-ltb 0 (front_count_of m) absent) (ap (λ (f : ℕ). f + a % (m - f)) is)
skewed_bucket_of-back a m front is (inr high) =
    rw (le-ltb a FRONT_HASHES high) (ap (λ (f : ℕ). f + a % (m - f)) is)

-- a bucket is below their number, if front hashes go to front buckets
skewed_bucket_of-lt : (a m : ℕ) → 1 ≤ m → skewed_bucket_of a m < m
skewed_bucket_of-lt a m some =
    let front = front_count_of m in
    let fewer : front < m = omega arith in
    let back : (front + a % (m - front)) < m = let rest : a % (m - front) < m - front = mod-lt a (omega arith) in omega arith in
    let P : ℕ → Type 0 = λ n. n < m in
    elim (cases_lt a FRONT_HASHES) [
      | inl low ↦ elim (cases_lt 0 front) [
        | inl present ↦
            let place : a % front < front = mod-lt a present in
            subst P (skewed_bucket_of-front a m front refl low present) (omega arith)
        | inr absent ↦ subst P (skewed_bucket_of-back a m front refl (inl (low, absent))) back
      ]
      | inr high ↦ subst P (skewed_bucket_of-back a m front refl (inr high)) back
    ]

-- a bucket is below their number
pub bucket_of-lt : (spread : Map) (a m : ℕ) → 1 ≤ m → bucket_of spread a m < m
bucket_of-lt Skewed a m some = skewed_bucket_of-lt a m some
bucket_of-lt Uniform a m some = mod-lt a some

-- a partition is below their number
pub partition_of-lt : (a b parts : ℕ) → a < 2 ^ 64 → b < 2 ^ 64 → 1 ≤ parts → partition_of a b parts < parts
unfolding partition_of
partition_of-lt a b parts a_fits b_fits some =
    let xor_fits : bit_xor a b < 2 ^ 64 = xor_lt 64 a b a_fits b_fits in
    let most : bit_xor a b * parts ≤ (2 ^ 64 - 1) * parts = mul-le-mul_right parts (omega arith) in
    (div-lt_iff_lt-mul {k = 2 ^ 64} {x = bit_xor a b * parts} {y = parts} (omega arith)).1 (omega arith)

-- rounded up, a quotient times the divisor reaches the number, and not a whole divisor more
div_ceil-bounds : (x y : ℕ) → 0 < y → (x ≤ div_ceil x y * y) × (div_ceil x y * y < x + y)
div_ceil-bounds x y some = div_ceil_times x y some

-- nothing divided is nothing
div_ceil-none : (y : ℕ) → div_ceil 0 y ≡ 0
div_ceil-none y = rw (zero-div y, zero-mod y) refl

-- a table is no smaller than the percentage asks, and one larger at most
table_size_of-near : (n alpha : ℕ) → (div_ceil (100 * n) alpha ≤ table_size_of n alpha) × (table_size_of n alpha ≤ div_ceil (100 * n) alpha + 1)
unfolding table_size_of
table_size_of-near n alpha =
    let size = div_ceil (100 * n) alpha in
    elim (is_power_of_two size) as (λ b. (size ≤ cond b (size + 1) size) × (cond b (size + 1) size ≤ size + 1)) [
      | true ↦ (omega arith, omega arith)
      | false ↦ (omega arith, omega arith)
    ]

-- the table holds all keys
pub le-table_size_of : (n alpha : ℕ) → MIN_ALPHA ≤ alpha → alpha ≤ MAX_ALPHA → n ≤ table_size_of n alpha
le-table_size_of n alpha low high =
    let near = table_size_of-near n alpha in
    let size = div_ceil (100 * n) alpha in
    let bounds = div_ceil-bounds (100 * n) alpha (omega arith) in
    let most : size * alpha ≤ size * 100 = mul-le-mul_left size high in
    omega (arith, near.0, bounds.0)

-- the table of some keys has a position
pub table_size_of-some : (n alpha : ℕ) → MIN_ALPHA ≤ alpha → alpha ≤ MAX_ALPHA → 0 < n → 1 ≤ table_size_of n alpha
table_size_of-some n alpha low high some = omega (arith, le-table_size_of n alpha low high)

-- no table has more positions than this
pub table_size_of-le : (n alpha : ℕ) → MIN_ALPHA ≤ alpha → n ≤ MAX_KEYS → table_size_of n alpha ≤ MAX_POSITIONS
table_size_of-le n alpha low few =
    let near = table_size_of-near n alpha in
    let size = div_ceil (100 * n) alpha in
    let bounds = div_ceil-bounds (100 * n) alpha (omega arith) in
    let half = 2 ^ 27 in
    elim (cases_lt half size) [
      | inl more ↦
          let least : (half + 1) * alpha ≤ size * alpha = mul-le-mul_right alpha (omega arith) in
          absurd (omega (arith, bounds.1))
      | inr small ↦ omega (arith, near.1)
    ]

-- no keys have no table
pub table_size_of-none : (alpha : ℕ) → table_size_of 0 alpha ≡ 0
unfolding table_size_of ones
table_size_of-none alpha = rw (div_ceil-none alpha) refl

-- no keys have no buckets
pub bucket_count_of-none : (c : ℕ) → bucket_count_of 0 c ≡ 0
unfolding bucket_count_of
bucket_count_of-none c =
    ap (λ (x : ℕ). div_ceil x (100 * max 1 (floor_log2 0))) (mul-zero c) ∙ div_ceil-none (100 * max 1 (floor_log2 0))

-- some keys have a bucket
pub bucket_count_of-some : (n c : ℕ) → MIN_C ≤ c → 0 < n → 1 ≤ bucket_count_of n c
unfolding bucket_count_of
bucket_count_of-some n c low some =
    let y = 100 * max 1 (floor_log2 n) in
    let bounds = div_ceil-bounds (c * n) y (omega arith) in
    let keys : 0 < c * n = mul-pos (omega arith) some in
    elim (cases_lt 0 (div_ceil (c * n) y)) [
      | inl present ↦ present
      | inr absent ↦
          let none : div_ceil (c * n) y ≡ 0 = omega arith in
          let nothing : 0 * y ≡ 0 = omega arith in
          let no_keys : div_ceil (c * n) y * y ≡ 0 = ap (λ (x : ℕ). x * y) none ∙ nothing in
          absurd (omega (arith, bounds.0))
    ]

-- no keys have more buckets than this
pub bucket_count_of-le : (n c : ℕ) → c ≤ MAX_C → n ≤ MAX_KEYS → bucket_count_of n c ≤ MAX_BUCKETS
unfolding bucket_count_of
bucket_count_of-le n c high few =
    let y = 100 * max 1 (floor_log2 n) in
    let count = div_ceil (c * n) y in
    let bounds = div_ceil-bounds (c * n) y (omega arith) in
    let keys : c * n ≤ MAX_C * n = mul-le-mul_right n high in
    elim (cases_lt MAX_BUCKETS count) [
      | inl more ↦
          let least : (MAX_BUCKETS + 1) * y ≤ count * y = mul-le-mul_right y (omega arith) in
          absurd (omega (arith, bounds.1))
      | inr few_enough ↦ few_enough
    ]
