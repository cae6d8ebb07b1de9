-- The search for pilots: one bucket after another takes the least pilot that sends its keys to distinct free positions.
use Rattle.std.specs.Prelude.{ℕ, zero, suc, ◌≡◌, ◌%◌, ◌^◌, ◌<◌, ◌≤◌, false, Bool}
use Rattle.std.specs.Prelude.{true, not, ◌&&◌, ◌==◌, List, [], ◌∷◌, ◌++◌, length, map}
use Rattle.std.specs.Prelude.{filter, bit_xor, if◌then◌else◌, Option, Some, None, Result, Ok, Err}
use Rattle.std.specs.List.{list_any, list_all}
use Rattle.std.specs.Option.{option_or}
use Rattle.std.specs.Ordering.{nat_cmp}
use Rattle.std.specs.FinSet.{FinSet, empty, contains, union, from_list}
use Rattle.pthash.specs.Hash.{pilot_hash}
use Rattle.pthash.specs.Order.{Bucket, bucket_at, member_count, numbers_below, HasNoEmptyBucket}

-- what a search is given: the seed, the size of the table, how many pilots may be tried, and the buckets by rank
pub record SearchPlan : Type 0 where
  pub seed : ℕ
  pub size : ℕ
  pub limit : ℕ
  pub buckets : List Bucket

-- what a search may rely on
pub record IsSearchable (plan : SearchPlan) : Type 0 where
  pub has_position : 1 ≤ plan.size
  pub size_bound : plan.size ≤ 2 ^ 28
  pub has_pilot : 1 ≤ plan.limit
  pub limit_bound : plan.limit < 2 ^ 32
  pub members_fit : member_count plan.buckets ≤ plan.size
  pub no_empty : HasNoEmptyBucket plan.buckets

-- a set of positions of the table
abbrev pub Positions : Type 0
Positions = FinSet nat_cmp

-- the positions below a size that pass the test
unfoldable pub set_of : ℕ → (ℕ → Bool) → Positions
set_of size test = from_list (filter test (numbers_below size))

-- where a search stands: the pilots by rank, and the positions that are taken
pub record SearchState : Type 0 where
  pub pilots : List ℕ
  pub taken : Positions

-- the position of a member under a pilot at this seed, in a table of this size
abbrev pub position_of : ℕ → ℕ → ℕ → ℕ → ℕ
position_of seed size pilot member = bit_xor member (pilot_hash pilot seed) % size

-- the positions of members under a pilot, in their order
abbrev pub positions_of : ℕ → ℕ → List ℕ → ℕ → List ℕ
positions_of seed size members pilot = map (position_of seed size pilot) members

-- whether a number is in the list
abbrev pub is_among : List ℕ → ℕ → Bool
is_among xs x = list_any (λ y. y == x) xs

-- no number comes twice
abbrev pub is_distinct : List ℕ → Bool
is_distinct [] = true
is_distinct (x ∷ xs) = not (is_among xs x) && is_distinct xs

-- none of the positions is taken, and none comes twice
abbrev pub fits : (ℕ → Bool) → List ℕ → Bool
fits is_taken positions = list_all (λ p. not (is_taken p)) positions && is_distinct positions

-- the least number below n that passes the test
unfoldable pub least_below : (ℕ → Bool) → ℕ → Option ℕ
least_below test zero = None
least_below test (suc n) = option_or (least_below test n) (if test n then Some n else None)

-- k is the least number below n that passes the test
pub record IsLeast (test : ℕ → Bool) (n k : ℕ) : Type 0 where
  pub below : k < n
  pub passes : test k ≡ true
  pub first : (j : ℕ) → j < k → test j ≡ false

-- whether a pilot of a bucket's members fits
abbrev pub pilot_fits : ℕ → ℕ → (ℕ → Bool) → List ℕ → ℕ → Bool
pilot_fits seed size is_taken members pilot = fits is_taken (positions_of seed size members pilot)

-- the pilot of a bucket's members: the least one below the limit that fits
abbrev pub pilot_of : ℕ → ℕ → ℕ → (ℕ → Bool) → List ℕ → Option ℕ
pilot_of seed size limit is_taken members = least_below (pilot_fits seed size is_taken members) limit

-- the state after the bucket at a rank took its pilot, or that rank where it has none
abbrev pub with_pilot : SearchPlan → ℕ → SearchState → Option ℕ → Result SearchState ℕ
with_pilot plan rank state None = Err rank
with_pilot plan rank state (Some k) = Ok (record {
  pilots = state.pilots ++ k ∷ [];
  taken = union state.taken (from_list (positions_of plan.seed plan.size (bucket_at plan.buckets rank).members k));
})

-- a search that is stuck stays so, and another goes on with the bucket at this rank
abbrev pub after_bucket : SearchPlan → ℕ → Result SearchState ℕ → Result SearchState ℕ
after_bucket plan rank (Err stuck) = Err stuck
after_bucket plan rank (Ok state) =
    with_pilot plan rank state (pilot_of plan.seed plan.size plan.limit (contains state.taken) (bucket_at plan.buckets rank).members)

-- the state after the first buckets, or the rank at which the search is stuck
unfoldable pub prefix_of : SearchPlan → ℕ → Result SearchState ℕ
prefix_of plan zero = Ok (record { pilots = []; taken = empty })
prefix_of plan (suc rank) = after_bucket plan rank (prefix_of plan rank)

-- the whole search
abbrev pub search_of : SearchPlan → Result SearchState ℕ
search_of plan = prefix_of plan (length plan.buckets)
