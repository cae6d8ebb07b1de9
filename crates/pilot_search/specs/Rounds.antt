-- What the threads of a round find.
use Rattle.std.specs.Prelude.{ℕ, ◌+◌, ◌<◌, List, length, slice_index}
use Rattle.std.specs.FinSet.{contains}
use Rattle.pthash.specs.Order.{bucket_at}
use Rattle.pthash.specs.Search.{SearchPlan, pilot_fits}
use Rattle.pthash.specs.Least.{FailsBelow}
use Rattle.pilot_search.specs.Table.{Table}
use Rattle.pilot_search.specs.declared.shares.Share.{Share}

-- no lower pilot fits the bucket at a rank in this table
abbrev pub HasNoLower : SearchPlan → Table → ℕ → ℕ → Type 0
HasNoLower plan table rank first =
    FailsBelow (pilot_fits plan.seed table.size (contains table.taken) (bucket_at plan.buckets rank).members) first

-- of each bucket of a run that begins at this rank, no lower pilot fits
pub record HaveNoLower (plan : SearchPlan) (table : Table) (start : ℕ) (firsts : List ℕ) : Type 0 where
  pub each : (i : ℕ) → i < length firsts → start + i < length plan.buckets → HasNoLower plan table (start + i) (slice_index firsts i)

-- the run of a share is tested in this table
abbrev pub IsTested : SearchPlan → Table → Share → Type 0
IsTested plan table share = HaveNoLower plan table share.start share.firsts.items
