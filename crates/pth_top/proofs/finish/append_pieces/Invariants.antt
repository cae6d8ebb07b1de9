use Rattle.std.proofs.Common.{◌≡◌, ◌≤◌, ◌-◌, length, take, option_map}
use Rattle.pth_outside.specs.Files.{LeavesFiles, appended}
use Rattle.pth_top.proofs.finish.append_pieces.Given as goal

abbrev pub invariant-loop-at : goal.invariant-loop-at
invariant-loop-at g l =
    let files = g.F.Files in
    LeavesFiles (files.state l.fn.files) (files.state l.files) ⊥ ⊥
    × ((files.state l.files).told ≡ option_map (appended l.fn.name (take l.at l.fn.bytes)) (files.state l.fn.files).told)
    × (l.at ≤ length l.fn.bytes)

abbrev pub decreases-loop-at : goal.decreases-loop-at
decreases-loop-at g l = length l.fn.bytes - l.at
