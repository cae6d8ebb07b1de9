use Rattle.std.proofs.Common.{refl, ap, ◌∙◌, drop, length}
use Rattle.std.proofs.lemmas.List.{take_at}
use Rattle.pth_outside.specs.Slots.{mark_of, marks_of, files_of}
use Rattle.pth_outside.proofs.SlotLemmas.{IsSlotRead, name_read, held_set_same, files_of-published}
use Rattle.pth_outside.proofs.slots.rename.Goals as goal

pub returns-in-Some-clause-ok : goal.returns-in-Some-clause-ok
returns-in-Some-clause-ok c =
    let whole = take_at c.take_bytes.new.slots (drop (length c.take_bytes.new.slots) c.slot_of.new.slots.items)
    c.slot_of.new.slots.len (c.take_bytes.auto.slots ∙ c.deref_mut.ensures.len) in
    let is = rw whole at c.index_mut-slot.ensures.value in
    let there = c.take_bytes.ensures.places c.args.to.now c.in_ok-place.place (rw c.deref_mut.ensures.value c.in_ok-place.ensures.found) in
    rw whole (files_of-published c.args.slots.now.items c.deref_mut.result.now c.take_bytes.new.slots c.args.from.now
    c.args.to.now c.in-Some.bytes.items c.in_ok-place.place c.index_mut-slot.result.now _
    c.requires (ap files_of c.deref_mut.ensures.value ∙ c.in_ok-place.ensures.files) c.in-Some.ensures.bytes c.take_bytes.ensures.files there is refl refl)

pub returns-in-Some-clause-marks : goal.returns-in-Some-clause-marks
returns-in-Some-clause-marks c =
    let whole = take_at c.take_bytes.new.slots (drop (length c.take_bytes.new.slots) c.slot_of.new.slots.items)
    c.slot_of.new.slots.len (c.take_bytes.auto.slots ∙ c.deref_mut.ensures.len) in
    let is = rw whole at c.index_mut-slot.ensures.value in
    let there = c.take_bytes.ensures.places c.args.to.now c.in_ok-place.place (rw c.deref_mut.ensures.value c.in_ok-place.ensures.found) in
    let at : IsSlotRead c.take_bytes.new.slots c.args.to.now c.in_ok-place.place c.index_mut-slot.result.now =
    record { found = there; is = is } in
    rw whole (held_set_same mark_of _ at (name_read at) (ap mark_of is)
    ∙ c.take_bytes.ensures.marks ∙ ap marks_of c.deref_mut.ensures.value ∙ c.in_ok-place.ensures.created)

pub returns-in-None-clause-ok : goal.returns-in-None-clause-ok
returns-in-None-clause-ok c =
    let whole = take_at c.take_bytes.new.slots (drop (length c.take_bytes.new.slots) c.slot_of.new.slots.items)
    c.slot_of.new.slots.len (c.take_bytes.auto.slots ∙ c.deref_mut.ensures.len) in
    rw whole (c.in-None.ensures.none ∙ ap files_of c.deref_mut.ensures.value ∙ c.in_ok-place.ensures.files)
