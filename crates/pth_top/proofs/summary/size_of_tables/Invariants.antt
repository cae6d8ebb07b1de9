use Rattle.std.proofs.Common.{◌≡◌, ◌≤◌, ◌*◌, take}
use Rattle.pthash.specs.declared.TheConstants.{MAX_POSITIONS}
use Rattle.pth_top.specs.Build.{tables_size}
use Rattle.pth_top.proofs.summary.size_of_tables.Given as goal

abbrev pub invariant-loop-i : goal.invariant-loop-i
invariant-loop-i l = (l.size ≡ tables_size l.alpha (take l.i l.parts)) × (l.size ≤ MAX_POSITIONS * l.i)
