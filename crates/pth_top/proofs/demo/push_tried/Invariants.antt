use Rattle.std.proofs.Common.{◌≡◌, ◌++◌, string_bytes, take}
use Rattle.pth_top.specs.Demo.{tried_lines}
use Rattle.pth_top.proofs.demo.push_tried.Given as goal

abbrev pub invariant-loop-i : goal.invariant-loop-i
invariant-loop-i l = string_bytes l.text ≡ string_bytes l.initial.text ++ tried_lines (take l.i l.all)
