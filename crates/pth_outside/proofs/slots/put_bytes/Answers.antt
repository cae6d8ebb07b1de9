use Rattle.std.proofs.Common.{refl, ap, ◌∙◌, Some}
use Rattle.pth_outside.specs.Slots.{bytes_of, mark_of}
use Rattle.pth_outside.proofs.SlotLemmas.{IsSlotRead, name_read, held_set_to, held_set_same, moved}
use Rattle.pth_outside.proofs.slots.put_bytes.Goals as goal

pub returns-clause-ok : goal.returns-clause-ok
returns-clause-ok c =
    let at : IsSlotRead c.slot_of.new.slots.items c.args.name.now c.in_ok-place.place c.index_mut-slot.result.now =
    record { found = c.in_ok-place.ensures.found; is = c.index_mut-slot.ensures.value } in
    held_set_to bytes_of _ _ at (name_read at) refl
    ∙ moved c.args.name.now (Some c.args.bytes.items) _ _ c.in_ok-place.ensures.files

pub returns-clause-marks : goal.returns-clause-marks
returns-clause-marks c =
    let at : IsSlotRead c.slot_of.new.slots.items c.args.name.now c.in_ok-place.place c.index_mut-slot.result.now =
    record { found = c.in_ok-place.ensures.found; is = c.index_mut-slot.ensures.value } in
    held_set_same mark_of _ at (name_read at) (ap mark_of at.is) ∙ c.in_ok-place.ensures.created
