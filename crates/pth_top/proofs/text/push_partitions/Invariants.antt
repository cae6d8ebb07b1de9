use Rattle.std.proofs.Common.{◌≡◌, ◌++◌, string_bytes, take}
use Rattle.pth_top.specs.Pilots.{parts_lines}
use Rattle.pth_top.proofs.text.push_partitions.Given as goal

abbrev pub invariant-loop-number : goal.invariant-loop-number
invariant-loop-number l =
    string_bytes l.text ≡ string_bytes l.initial.text ++ parts_lines l.alpha 0 (take l.number l.parts)
