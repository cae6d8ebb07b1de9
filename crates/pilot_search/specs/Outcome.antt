-- What a search has placed, and where it is stuck.
use Rattle.std.specs.Prelude.{◌≡◌, ℕ, ◌≤◌, List, length, take, slice_index, Ok, Err}
use Rattle.pthash.specs.Order.{bucket_at}
use Rattle.pthash.specs.Search.{SearchPlan, SearchState, prefix_of, search_of}
use Rattle.pilot_search.specs.Table.{Table}
use Rattle.pilot_search.specs.declared.placing.Placed.{Placed}
use Rattle.pilot_search.specs.declared.placing.Stuck.{Stuck}

-- pilots by rank and a table stand for the state of the search after its first t buckets
pub record IsSearchedTo (plan : SearchPlan) (t : ℕ) (pilots : List ℕ) (table : Table) : Type 0 where
  pub state : prefix_of plan t ≡ Ok (record { pilots = take t pilots; taken = table.taken })
  pub one_number_a_rank : length pilots ≡ length plan.buckets
  pub no_pilot_yet : (rank : ℕ) → t ≤ rank → slice_index pilots rank ≡ 0
  pub size : table.size ≡ plan.size

-- what is placed is the state of the search after its first `done` buckets
abbrev pub IsPlacedSoFar : SearchPlan → Placed → Type 0
IsPlacedSoFar plan placed = IsSearchedTo plan placed.done placed.pilots.items placed.occupied

-- these are the pilots of the first buckets
pub record AreFirstPilots (plan : SearchPlan) (pilots : List ℕ) : Type 0 where
  pub within : length pilots ≤ length plan.buckets
  pub state : SearchState
  pub reached : prefix_of plan (length pilots) ≡ Ok state
  pub same_pilots : state.pilots ≡ pilots

-- what is placed is the state in which the whole search ends
pub record IsPlaced (plan : SearchPlan) (placed : Placed) : Type 0 where
  pub found : search_of plan ≡ Ok (record { pilots = placed.pilots.items; taken = placed.occupied.taken })
  pub done : placed.done ≡ length plan.buckets
  pub one_number_a_rank : length placed.pilots.items ≡ length plan.buckets
  pub size : placed.occupied.size ≡ plan.size

-- the search is stuck at this rank, at the bucket of this number
pub record IsStuckAt (plan : SearchPlan) (stuck : Stuck) : Type 0 where
  pub found : search_of plan ≡ Err stuck.rank
  pub bucket : stuck.bucket ≡ (bucket_at plan.buckets stuck.rank).number
