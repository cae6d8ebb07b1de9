use Rattle.std.proofs.Common.{sym, ap, subst, arith}
use Rattle.std.specs.Prelude.{All}
use Rattle.std.proofs.lemmas.List.Elements.{All-push}
use Rattle.pthash.specs.Order.{most_members}
use Rattle.turn_search.specs.Passes.{TurnTableData}
use Rattle.turn_search.specs.Workers.{IsReady}
use Rattle.turn_search.specs.declared.searching.Worker.{Worker}
use Rattle.turn_search.proofs.searching.join_crew.Goals as goal

pub returns-in-Ok-clause-ready : goal.returns-in-Ok-clause-ready
returns-in-Ok-clause-ready c =
    let worker : Worker = record { pass = c.args.pass; scratch = c.in_ok-scratch.scratch } in
    let of_plan = ap (λ (t : TurnTableData). most_members t.plan.buckets) c.table.view_is in
    subst (All (IsReady c.args.table.now)) (sym c.in-Ok.ensures.items)
    (All-push (IsReady c.args.table.now) c.args.crew.now.items worker c.requires.ready
    (record {
      of_table = record { pass = c.requires.pass; room = omega (arith, c.in_ok-scratch.ensures, of_plan) };
      no_claim = c.requires.no_claim;
    }))
