use Rattle.std.proofs.Common.{◌<◌, ◌≤◌, arith, ⊎_elim}
use Rattle.std.specs.FinSet.{contains}
use Rattle.std.proofs.lemmas.Bool.{cases_lt}
use Rattle.pthash.specs.SearchLaws.{pilot_fits-repeated}
use Rattle.pilot_search.proofs.pilot.find_beyond.Goals as goal

pub returns-then-not-may_fit-clause-pilot : goal.returns-then-not-may_fit-clause-pilot
returns-then-not-may_fit-clause-pilot c =
    let repeated = c.may_fit.ensures c.if-not-may_fit.true in
    record { fails = λ j below. pilot_fits-repeated c.args.seed c.args.size.now (contains c.args.occupied.now.taken) c.args.members.now j repeated }

pub loop-pilot-init : goal.loop-pilot-init
loop-pilot-init c = record {
  fails = record {
    fails = λ j below.
        ⊎_elim
        (λ (lower : j < c.args.first). c.requires.no_lower.fails j lower)
        (λ (higher : c.args.first ≤ j). c.requires.none_kept.fails j (omega arith))
        (cases_lt j c.args.first);
  };
  marks = c.requires.marks;
}
