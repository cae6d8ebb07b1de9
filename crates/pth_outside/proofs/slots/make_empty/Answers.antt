use Rattle.std.proofs.Common.{[], refl, ap, ◌∙◌, Some}
use Rattle.pth_outside.specs.Slots.{bytes_of, mark_of}
use Rattle.pth_outside.proofs.SlotLemmas.{IsSlotRead, name_read, held_set_to, moved}
use Rattle.pth_outside.proofs.slots.make_empty.Goals as goal

pub returns-clause-ok : goal.returns-clause-ok
returns-clause-ok c =
    let at : IsSlotRead c.slot_of.new.slots.items c.args.name.now c.in_ok-place.place c.index_mut-slot.result.now =
    record { found = c.in_ok-place.ensures.found; is = c.index_mut-slot.ensures.value } in
    held_set_to bytes_of _ _ at (name_read at) (ap Some c.new.ensures.items)
    ∙ moved c.args.name.now (Some []) _ _ c.in_ok-place.ensures.files

pub returns-clause-marked : goal.returns-clause-marked
returns-clause-marked c =
    let at : IsSlotRead c.slot_of.new.slots.items c.args.name.now c.in_ok-place.place c.index_mut-slot.result.now =
    record { found = c.in_ok-place.ensures.found; is = c.index_mut-slot.ensures.value } in
    held_set_to mark_of _ _ at (name_read at) refl ∙ moved c.args.name.now (Some tt) _ _ c.in_ok-place.ensures.created
