use Rattle.std.specs.Prelude.{◌≡◌, map, take}
use Rattle.demo_index.specs.Trials.{tried_of}
use Rattle.demo_index.proofs.trial.try_encodings.Given as goal

abbrev pub invariant-loop-i : goal.invariant-loop-i
invariant-loop-i l = l.all.items ≡ map (tried_of l.built l.keys) (take l.i l.encs.items)
