use Rattle.std.proofs.Common.{◌≤◌, ◌<◌, ◌-◌, vec_len}
use Rattle.pth_outside.specs.Files.{ReadsFiles, contents}
use Rattle.pth_outside.proofs.Pieces.{IsFront}
use Rattle.pth_outside.proofs.whole.read_whole.Given as goal

abbrev pub invariant-loop-count : goal.invariant-loop-count
invariant-loop-count g l =
    let files = g.F.Files in
    ReadsFiles (files.state l.fn.files) (files.state l.files) ⊥ ⊥
    × IsFront (contents (files.state l.fn.files).told l.fn.name) l.bytes.items
    × (vec_len l.bytes ≤ l.fn.most)
    × (0 < vec_len l.piece)

abbrev pub decreases-loop-count : goal.decreases-loop-count
decreases-loop-count g l = l.fn.most - vec_len l.bytes
