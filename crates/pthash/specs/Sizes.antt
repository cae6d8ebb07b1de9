-- How large a table and how many buckets serve n keys, and where a pair of hashes goes.
use Rattle.std.specs.Prelude.{ℕ, zero, suc, ◌+◌, ◌-◌, ◌*◌, ◌/◌, ◌%◌, ◌^◌, max, ◌&&◌, nat_lt, if◌then◌else◌, bit_xor}
use Rattle.std.specs.Int.{div_ceil, is_power_of_two}
use Rattle.pthash.specs.declared.TheConstants.{FRONT_HASHES}
use Rattle.pthash.specs.declared.Map.{Map}
use Rattle.pthash.specs.declared.Map.TheVariants.{Skewed, Uniform}

-- how often n can be halved before it is below 2, at most `most` times
unfoldable pub halvings : ℕ → ℕ → ℕ
halvings zero n = 0
halvings (suc most) n = if nat_lt n 2 then 0 else suc (halvings most (n / 2))

-- the greatest e with 2 ^ e at most n, for n from 1 to 2 ^ 64 - 1
abbrev pub floor_log2 : ℕ → ℕ
floor_log2 n = halvings 64 n

-- the size of the table of n keys: alpha percent of it are taken, and it is never a power of two, since there an xor with
-- a pilot's hash could never separate two keys whose low bits agree
unfoldable pub table_size_of : ℕ → ℕ → ℕ
table_size_of n alpha = let size = div_ceil (100 * n) alpha in if is_power_of_two size then size + 1 else size

-- the number of buckets of n keys: c hundredths of n over the logarithm of n
unfoldable pub bucket_count_of : ℕ → ℕ → ℕ
bucket_count_of n c = div_ceil (c * n) (100 * max 1 (floor_log2 n))

-- how many of m buckets are front buckets: three tenths
abbrev pub front_count_of : ℕ → ℕ
front_count_of m = (3 * m) / 10

-- the bucket of a first hash, of m, where three fifths of the hashes go to the front buckets
unfoldable pub skewed_bucket_of : ℕ → ℕ → ℕ
skewed_bucket_of a m =
    let front = front_count_of m in
    if nat_lt a FRONT_HASHES && nat_lt 0 front then a % front else front + a % (m - front)

-- the bucket of a first hash under a map, of m
abbrev pub bucket_of : Map → ℕ → ℕ → ℕ
bucket_of Skewed a m = skewed_bucket_of a m
bucket_of Uniform a m = a % m

-- the partition of a pair of hashes, of this many
unfoldable pub partition_of : ℕ → ℕ → ℕ → ℕ
partition_of a b parts = (bit_xor a b * parts) / 2 ^ 64
