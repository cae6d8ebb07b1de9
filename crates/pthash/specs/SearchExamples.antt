-- Two worked searches: one that finds all pilots, and one that is stuck.
use Rattle.std.specs.Prelude.{◌≡◌, ℕ, [], ◌∷◌, Ok, Err}
use Rattle.std.specs.Cmp.{nat_cmp_total}
use Rattle.std.specs.FinSet.{empty, union, from_list, contains-empty, contains-union, contains-from_list_nat}
use Rattle.pthash.specs.declared.Map.TheVariants.{Skewed}
use Rattle.pthash.specs.Hash.{pilot_hash, hash_of, blocks_of}
use Rattle.pthash.specs.Sizes.{skewed_bucket_of}
use Rattle.pthash.specs.Order.{order_of, ranked, numbers_below}
use Rattle.pthash.specs.Search.{SearchPlan, search_of, prefix_of, least_below}
use Rattle.pthash.specs.Examples.{SEED_OF_ZERO}

-- three records, the last with this second hash, in two of seven buckets, with one pilot to try in a table of five
abbrev plan_of : ℕ → SearchPlan
plan_of last = record {
  seed = SEED_OF_ZERO;
  size = 5;
  limit = 1;
  buckets =
      order_of (record { a = 0; b = 0; ordinal = 0 } ∷ record { a = 2; b = 1; ordinal = 1 } ∷ record { a = 1; b = last; ordinal = 2 } ∷ []) Skewed 7;
}

-- both buckets take pilot 0
pub a_search_that_ends : search_of (plan_of 8) ≡ Ok (record {
  pilots = 0 ∷ 0 ∷ [];
  taken = union (union empty (from_list (0 ∷ 1 ∷ []))) (from_list (3 ∷ []));
})
unfolding prefix_of least_below order_of ranked numbers_below skewed_bucket_of pilot_hash hash_of blocks_of
a_search_that_ends = simp (contains-empty, contains-union nat_cmp_total, contains-from_list_nat)

-- the only pilot of the second bucket sends it to a taken position
pub a_search_that_is_stuck : search_of (plan_of 6) ≡ Err 1
unfolding prefix_of least_below order_of ranked numbers_below skewed_bucket_of pilot_hash hash_of blocks_of
a_search_that_is_stuck = simp (contains-empty, contains-union nat_cmp_total, contains-from_list_nat)

-- two records of one bucket whose positions are the same
abbrev plan_of_a_repeat : SearchPlan
plan_of_a_repeat = record {
  seed = SEED_OF_ZERO;
  size = 5;
  limit = 1;
  buckets = order_of (record { a = 0; b = 0; ordinal = 0 } ∷ record { a = 2; b = 5; ordinal = 1 } ∷ []) Skewed 7;
}

-- the only pilot sends both to one position
pub a_search_that_is_stuck_by_a_repeat : search_of plan_of_a_repeat ≡ Err 0
unfolding prefix_of least_below order_of ranked numbers_below skewed_bucket_of pilot_hash hash_of blocks_of
a_search_that_is_stuck_by_a_repeat = simp contains-empty
