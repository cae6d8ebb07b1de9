use Rattle.std.proofs.Common.{◌≡◌, ℕ, ◌+◌, ◌^◌, ◌<◌}
use Rattle.pilot_search.specs.Flags.{FailWhereSet}
use Rattle.turn_search.specs.Looks.{is_open_under}
use Rattle.turn_search.specs.Passes.{IsPassOf, OnlyLooked}
use Rattle.turn_search.proofs.table.TurnTable.member_flags.Given as goal

abbrev pub invariant-loop-done : goal.invariant-loop-done
invariant-loop-done l = record {
  pass : IsPassOf l.self l.pass;
  looks : OnlyLooked l.initial.pass.view l.pass.view;
  bound : l.flags < 2 ^ l.done;
  fail : (place : ℕ) → place + l.done ≡ l.from + 8 → FailWhereSet (is_open_under l.pass.view.looks l.hashes l.member l.size) place l.flags;
}
