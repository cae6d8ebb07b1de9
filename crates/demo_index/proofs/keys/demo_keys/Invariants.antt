use Rattle.std.specs.Prelude.{◌≡◌}
use Rattle.demo_index.specs.Keys.{demo_keys_of}
use Rattle.demo_index.proofs.keys.demo_keys.Given as goal

abbrev pub invariant-loop-number : goal.invariant-loop-number
invariant-loop-number l = l.keys ≡ demo_keys_of l.number l.fn.seed
