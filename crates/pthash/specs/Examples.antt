-- Worked examples of the definitions: each is computed.
use Rattle.std.specs.Prelude.{◌≡◌, ℕ, List, [], ◌∷◌, replicate, refl}
use lib.Count.{ones}
use Rattle.pthash.specs.declared.Map.TheVariants.{Skewed, Uniform}
use Rattle.pthash.specs.declared.Record.{Record}
use Rattle.pthash.specs.declared.TheConstants.{MULTIPLIER}
use Rattle.pthash.specs.Hash.{hash_of, blocks_of, pilot_hash, product}
use Rattle.pthash.specs.Sizes.{table_size_of, bucket_count_of, front_count_of, skewed_bucket_of, bucket_of, partition_of, halvings}
use Rattle.pthash.specs.Order.{order_of, ranked, numbers_below}

-- no bytes at seed 0
pub hash_of_no_bytes_at_0 : hash_of [] 0 ≡ 0
unfolding hash_of blocks_of
hash_of_no_bytes_at_0 = refl

-- no bytes at seed 1
pub hash_of_no_bytes_at_1 : hash_of [] 1 ≡ 0xc6a4a7935bd064dc
unfolding hash_of blocks_of
hash_of_no_bytes_at_1 = refl

-- no bytes at the seed 1 with its bits flipped
pub hash_of_no_bytes_at_the_last_seed_but_one : hash_of [] 0xfffffffffffffffe ≡ 0x777defef88a7076e
unfolding hash_of blocks_of
hash_of_no_bytes_at_the_last_seed_but_one = refl

-- the byte of the letter a
pub hash_of_a : hash_of (0x61 ∷ []) 0xc6a4a7935bd1e9f4 ≡ 0
unfolding hash_of blocks_of
hash_of_a = refl

-- seven bytes, which fill no block
pub hash_of_seven_zeros : hash_of (replicate 7 0) 0x6e80950782bd6313 ≡ 0
unfolding hash_of blocks_of
hash_of_seven_zeros = refl

-- eight bytes, which are one block
pub hash_of_eight_zeros : hash_of (replicate 8 0) 0x35253c9ade8f4ca8 ≡ 0
unfolding hash_of blocks_of
hash_of_eight_zeros = refl

-- nine bytes: a block and one byte more
pub hash_of_nine_zeros : hash_of (replicate 9 0) 0xfbc9e42e3a61363d ≡ 0
unfolding hash_of blocks_of
hash_of_nine_zeros = refl

-- the seed 8 * MULTIPLIER modulo 2 ^ 64, at which pilot 0 has the hash 0
abbrev pub SEED_OF_ZERO : ℕ
SEED_OF_ZERO = product 8 MULTIPLIER

-- pilot 0 at that seed
pub pilot_hash_of_0 : pilot_hash 0 SEED_OF_ZERO ≡ 0
unfolding pilot_hash hash_of blocks_of
pilot_hash_of_0 = refl

-- no key needs no position
pub table_size_of_none : table_size_of 0 98 ≡ 0
unfolding table_size_of ones
table_size_of_none = refl

-- one key
pub table_size_of_one : table_size_of 1 98 ≡ 3
unfolding table_size_of ones
table_size_of_one = refl

-- a thousand keys
pub table_size_of_a_thousand : table_size_of 1000 98 ≡ 1021
unfolding table_size_of ones
table_size_of_a_thousand = refl

-- a size of 1024 is raised by one
pub table_size_above_a_power_of_two : table_size_of 1003 98 ≡ 1025
unfolding table_size_of ones
table_size_above_a_power_of_two = refl

-- a size of 1 is a power of two as well
pub table_size_of_one_at_100 : table_size_of 1 100 ≡ 2
unfolding table_size_of ones
table_size_of_one_at_100 = refl

-- no key needs no bucket
pub bucket_count_of_none : bucket_count_of 0 700 ≡ 0
unfolding bucket_count_of halvings
bucket_count_of_none = refl

-- one key
pub bucket_count_of_one : bucket_count_of 1 700 ≡ 7
unfolding bucket_count_of halvings
bucket_count_of_one = refl

-- a thousand keys
pub bucket_count_of_a_thousand : bucket_count_of 1000 700 ≡ 778
unfolding bucket_count_of halvings
bucket_count_of_a_thousand = refl

-- the front buckets of these
pub front_count_of_778 : front_count_of 778 ≡ 233
front_count_of_778 = refl

-- the last hash that goes to the front buckets
pub bucket_of_the_last_front_hash : bucket_of Skewed 11068046444225730968 7 ≡ 0
unfolding skewed_bucket_of
bucket_of_the_last_front_hash = refl

-- the first hash that goes to the others
pub bucket_of_the_first_back_hash : bucket_of Skewed 11068046444225730969 7 ≡ 6
unfolding skewed_bucket_of
bucket_of_the_first_back_hash = refl

-- of three buckets none is a front bucket
pub bucket_of_without_front_buckets : bucket_of Skewed 5 3 ≡ 2
unfolding skewed_bucket_of
bucket_of_without_front_buckets = refl

-- the greatest xor goes to the last partition
pub partition_of_the_greatest_xor : partition_of 0xffffffffffffffff 0 8 ≡ 7
unfolding partition_of
partition_of_the_greatest_xor = refl

-- an xor of 0 goes to the first partition
pub partition_of_equal_hashes : partition_of 12345 12345 8 ≡ 0
unfolding partition_of
partition_of_equal_hashes = refl

-- records with these first hashes and the second hashes 10, 11 and so on
abbrev seven_records : List Record
seven_records =
    record { a = 0; b = 10; ordinal = 0 } ∷ record { a = 1; b = 11; ordinal = 1 }
    ∷ record { a = 11068046444225730970; b = 12; ordinal = 2 } ∷ record { a = 11068046444225730973; b = 13; ordinal = 3 }
    ∷ record { a = 11068046444225730976; b = 14; ordinal = 4 } ∷ record { a = 11068046444225730971; b = 15; ordinal = 5 }
    ∷ record { a = 11068046444225730974; b = 16; ordinal = 6 } ∷ []

pub order_of_seven_records :
    order_of seven_records Skewed 4
    ≡ record { number = 2; members = 12 ∷ 13 ∷ 14 ∷ [] } ∷ record { number = 0; members = 10 ∷ 11 ∷ [] }
    ∷ record { number = 3; members = 15 ∷ 16 ∷ [] } ∷ []
unfolding order_of ranked numbers_below skewed_bucket_of
order_of_seven_records = refl

-- the greatest hash under the skewed map
pub bucket_of_the_greatest_hash : bucket_of Skewed 0xffffffffffffffff 7 ≡ 2
unfolding skewed_bucket_of
bucket_of_the_greatest_hash = refl

-- the greatest hash under the uniform map
pub bucket_of_the_greatest_hash_when_uniform : bucket_of Uniform 0xffffffffffffffff 7 ≡ 1
bucket_of_the_greatest_hash_when_uniform = refl

-- records with these first hashes and the second hashes 10, 11 and so on
abbrev four_records : List Record
four_records =
    record { a = 0; b = 10; ordinal = 0 } ∷ record { a = 1; b = 11; ordinal = 1 }
    ∷ record { a = 2; b = 12; ordinal = 2 } ∷ record { a = 4; b = 13; ordinal = 3 } ∷ []

pub order_of_four_records :
    order_of four_records Skewed 4 ≡ record { number = 0; members = 10 ∷ 11 ∷ 12 ∷ 13 ∷ [] } ∷ []
unfolding order_of ranked numbers_below skewed_bucket_of
order_of_four_records = refl

pub order_of_four_records_when_uniform :
    order_of four_records Uniform 4
    ≡ record { number = 0; members = 10 ∷ 13 ∷ [] } ∷ record { number = 1; members = 11 ∷ [] }
    ∷ record { number = 2; members = 12 ∷ [] } ∷ []
unfolding order_of ranked numbers_below
order_of_four_records_when_uniform = refl
