use Rattle.std.proofs.Common.{take}
use Rattle.pth_outside.specs.Slots.{HasNoSlot}
use Rattle.pth_outside.proofs.slots.find.Given as goal

abbrev pub invariant-loop-i : goal.invariant-loop-i
invariant-loop-i l = HasNoSlot (take l.i l.slots) l.name
