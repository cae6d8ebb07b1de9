use Rattle.std.proofs.Common.{◌≡◌, ◌++◌, string_bytes, take}
use Rattle.pth_top.specs.Texts.{spaced}
use Rattle.pth_top.proofs.text.push_pilots.Given as goal

abbrev pub invariant-loop-pilot : goal.invariant-loop-pilot
invariant-loop-pilot l = string_bytes l.text ≡ string_bytes l.initial.text ++ spaced (take l.pilot-index l.pilots)
