use Rattle.std.proofs.Common.{◌-◌}
use Rattle.pth_outside.specs.Files.{ReadsFiles}
use Rattle.key_check.specs.Walks.{IsFor}
use Rattle.key_check.proofs.Checking.{CheckSoFar}
use Rattle.key_check.proofs.check.check_keys.Given as goal

abbrev pub invariant-loop-walk : goal.invariant-loop-walk
invariant-loop-walk g l =
    let files = g.F.Files in
    ReadsFiles (files.state l.fn.files) (files.state l.files) ⊥ ⊥
    × IsFor l.fn.index.index l.walk
    × CheckSoFar l.fn.index.index l.fn.name (files.state l.fn.files).told l.reader l.walk

abbrev pub decreases-loop-walk : goal.decreases-loop-walk
decreases-loop-walk g l = 67108865 - l.walk.lines
