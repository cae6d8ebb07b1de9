use Rattle.std.proofs.Common.{◌≤◌, ◌-◌, length}
use Rattle.pth_outside.specs.Files.{ReadsFiles}
use Rattle.pth_outside.proofs.KeyFileLemmas.{KeysSoFar}
use Rattle.pth_outside.proofs.key_file.read_keys.Given as goal

abbrev pub invariant-loop-keys : goal.invariant-loop-keys
invariant-loop-keys g l =
    let files = g.F.Files in
    ReadsFiles (files.state l.fn.files) (files.state l.files) ⊥ ⊥
    × KeysSoFar l.fn.name (files.state l.fn.files).told l.reader l.keys
    × (length l.keys ≤ l.fn.most)

abbrev pub decreases-loop-keys : goal.decreases-loop-keys
decreases-loop-keys g l = l.fn.most - length l.keys
