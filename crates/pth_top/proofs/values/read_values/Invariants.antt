use Rattle.std.proofs.Common.{◌≤◌, ◌-◌, string_bytes}
use Rattle.pthash.specs.declared.TheConstants.{MAX_KEYS}
use Rattle.pth_outside.specs.Files.{ReadsFiles}
use Rattle.pth_top.proofs.Lines.{ValuesSoFar}
use Rattle.pth_top.proofs.values.read_values.Given as goal

abbrev pub invariant-loop-text : goal.invariant-loop-text
invariant-loop-text g l =
    let files = g.F.Files in
    ReadsFiles (files.state l.fn.files) (files.state l.files) ⊥ ⊥
    × ValuesSoFar l.fn.index.index l.fn.name (files.state l.fn.files).told l.reader (string_bytes l.text) l.count
    × (l.count ≤ MAX_KEYS)

abbrev pub decreases-loop-text : goal.decreases-loop-text
decreases-loop-text g l = MAX_KEYS - l.count
