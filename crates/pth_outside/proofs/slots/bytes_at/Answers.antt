use Rattle.std.proofs.Common.{sym, ◌∙◌}
use Rattle.pth_outside.specs.Slots.{bytes_of}
use Rattle.pth_outside.proofs.SlotLemmas.{IsSlotRead, held_at, held_absent}
use Rattle.pth_outside.proofs.slots.bytes_at.Goals as goal

pub returns-in-Some : goal.returns-in-Some
returns-in-Some c =
    let at : IsSlotRead c.args.slots.now c.args.name.now c.in-Some.place c.index-slots-place.result =
    record { found = c.in-Some.ensures.found; is = c.index-slots-place.is } in
    c.as_deref.ensures.value ∙ sym (held_at bytes_of at)

pub returns-in-None : goal.returns-in-None
returns-in-None c = sym (held_absent bytes_of c.args.slots.now c.args.name.now c.in-None.ensures.none)
