use Rattle.std.proofs.Common.{◌≡◌, drop}
use Rattle.elias_fano.specs.Spelling.{rises}
use Rattle.list_tests.proofs.rising_lists.in_order.Given as goal

abbrev pub invariant-loop-value : goal.invariant-loop-value
invariant-loop-value l = rises l.before (drop l.value-index l.values) ≡ rises 0 l.values
