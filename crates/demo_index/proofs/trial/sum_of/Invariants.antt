use Rattle.std.specs.Prelude.{◌≡◌, ◌≤◌, ◌*◌, take}
use Rattle.pthash.specs.declared.TheConstants.{MAX_KEYS}
use Rattle.demo_index.specs.Trials.{sum_of_values}
use Rattle.demo_index.proofs.trial.sum_of.Given as goal

abbrev pub invariant-loop-i : goal.invariant-loop-i
invariant-loop-i l = (l.sum ≡ sum_of_values l.index.index (take l.i l.keys)) × (l.sum ≤ l.i * MAX_KEYS)
