use Rattle.std.proofs.Common.{length}
use Rattle.hem_build.proofs.Grouping.{AreGroupsTo}
use Rattle.hem_build.proofs.groups.group_starts.Given as goal

abbrev pub invariant-loop : goal.invariant-loop
invariant-loop l = AreGroupsTo (length l.counts) l.counter l.start l.starts.items
