use Rattle.std.proofs.Common.{◌≡◌, ◌+◌, ◌≤◌, max, length}
use Rattle.std.specs.Prelude.{All, None}
use Rattle.turn_search.specs.Passes.{IsPassOf}
use Rattle.turn_search.specs.Workers.{IsReady}
use Rattle.turn_search.proofs.searching.crew_of.Given as goal

abbrev pub invariant-loop : goal.invariant-loop
invariant-loop l = record {
  first : IsPassOf l.table l.first;
  no_claim : l.first.view.claim ≡ None;
  ready : All (IsReady l.table) l.crew.items;
  len : length l.crew.items + 1 ≡ l.counter;
  within : l.counter ≤ max l.workers 1;
}
