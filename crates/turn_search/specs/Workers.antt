-- Workers as contracts see them.
use Rattle.std.specs.Prelude.{◌≡◌, ◌≤◌, None}
use Rattle.pthash.specs.Order.{most_members}
use Rattle.turn_search.specs.declared.searching.Worker.{Worker}
use Rattle.turn_search.specs.Passes.{TurnTableData, IsPassOf}

-- a worker has a pass of this table, and a scratch with room for the table's plan
pub record IsWorkerOf (table : TurnTableData) (worker : Worker) : Type 0 where
  pub pass : IsPassOf table worker.pass
  pub room : most_members table.plan.buckets ≤ worker.scratch.members

-- a worker of this table has no claim yet
pub record IsReady (table : TurnTableData) (worker : Worker) : Type 0 where
  pub of_table : IsWorkerOf table worker
  pub no_claim : worker.pass.view.claim ≡ None
