use Rattle.std.proofs.Common.{◌≡◌, ◌++◌, string_bytes, take}
use Rattle.pth_top.specs.Texts.{cause_lines}
use Rattle.pth_top.proofs.text.push_causes.Given as goal

abbrev pub invariant-loop-i : goal.invariant-loop-i
invariant-loop-i l = string_bytes l.text ≡ string_bytes l.initial.text ++ cause_lines (take l.i l.seeds) (take l.i l.causes)
