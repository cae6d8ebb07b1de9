use Rattle.std.proofs.Common.{refl, sym, ap, ◌∙◌, option_map, None}
use Rattle.pth_outside.specs.Slots.{bytes_of, mark_of}
use Rattle.pth_outside.proofs.AtNamesLemmas.{put_same}
use Rattle.pth_outside.proofs.SlotLemmas.{IsSlotRead, name_at, held_at, held_absent, held_set_to, held_set_same, IsSlotOf-set}
use Rattle.pth_outside.proofs.slots.take_bytes.Goals as goal

pub returns-in-Some-clause-bytes : goal.returns-in-Some-clause-bytes
returns-in-Some-clause-bytes c =
    let at : IsSlotRead c.args.slots.now c.args.name.now c.in-Some.place c.index-slots-place.result =
    record { found = c.in-Some.ensures.found; is = c.index-slots-place.is } in
    ap (option_map (λ v. v.items)) c.take.ensures.value ∙ sym (held_at bytes_of at)

pub returns-in-Some-clause-files : goal.returns-in-Some-clause-files
returns-in-Some-clause-files c =
    let at : IsSlotRead c.args.slots.now c.args.name.now c.in-Some.place c.index-slots-place.result =
    record { found = c.in-Some.ensures.found; is = c.index-slots-place.is } in
    held_set_to bytes_of _ _ at (name_at at) (ap (option_map (λ v. v.items)) c.take.ensures.after)

pub returns-in-Some-clause-marks : goal.returns-in-Some-clause-marks
returns-in-Some-clause-marks c =
    let at : IsSlotRead c.args.slots.now c.args.name.now c.in-Some.place c.index-slots-place.result =
    record { found = c.in-Some.ensures.found; is = c.index-slots-place.is } in
    held_set_same mark_of _ at (name_at at) refl

pub returns-in-Some-clause-places : goal.returns-in-Some-clause-places
returns-in-Some-clause-places c other i there =
    let at : IsSlotRead c.args.slots.now c.args.name.now c.in-Some.place c.index-slots-place.result =
    record { found = c.in-Some.ensures.found; is = c.index-slots-place.is } in
    IsSlotOf-set c.args.slots.now c.args.name.now other c.in-Some.place i _ at.found there (name_at at)

pub returns-in-None-clause-bytes : goal.returns-in-None-clause-bytes
returns-in-None-clause-bytes c = sym (held_absent bytes_of c.args.slots.now c.args.name.now c.in-None.ensures.none)

pub returns-in-None-clause-files : goal.returns-in-None-clause-files
returns-in-None-clause-files c =
    sym (put_same _ c.args.name.now None (held_absent bytes_of c.args.slots.now c.args.name.now c.in-None.ensures.none))
