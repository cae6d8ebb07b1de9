use Rattle.std.proofs.Common.{refl, sym, ap, ◌∙◌, ◌++◌, ℕ, List, is_some, Some, option_map}
use Rattle.pth_outside.specs.Slots.{bytes_of, mark_of}
use Rattle.pth_outside.proofs.SlotLemmas.{IsSlotRead, name_at, held_at, held_absent, held_set_to, held_set_same}
use Rattle.pth_outside.proofs.SlotLemmas.{appended_absent, on_err}
use Rattle.pth_outside.proofs.slots.extend.Goals as goal

pub returns-in_default-clause-there : goal.returns-in_default-clause-there
returns-in_default-clause-there c =
    ap is_some (sym (held_absent bytes_of c.args.slots.now c.args.name.now c.in_default.ensures.none))

pub returns-in_default-clause-ok : goal.returns-in_default-clause-ok
returns-in_default-clause-ok c =
    let absent = held_absent bytes_of c.args.slots.now c.args.name.now c.in_default.ensures.none in
    sym (appended_absent _ c.args.name.now c.args.piece.now absent)

pub returns-in_err-extend_from_slice-in-Some-bytes-clause-err : goal.returns-in_err-extend_from_slice-in-Some-bytes-clause-err
returns-in_err-extend_from_slice-in-Some-bytes-clause-err c =
    let at : IsSlotRead c.args.slots.now c.args.name.now c.in-Some.place c.index-slots-place.result =
    record { found = c.in-Some.ensures.found; is = c.index-slots-place.is } in
    on_err c.from_residual.result (held_set_same bytes_of _ at (name_at at)
    (ap Some c.in_err-extend_from_slice-in-Some-bytes.ensures.items ∙ sym (ap (option_map (λ v. v.items)) c.in-Some-bytes.is)))

pub returns-in_err-extend_from_slice-in-Some-bytes-clause-marks : goal.returns-in_err-extend_from_slice-in-Some-bytes-clause-marks
returns-in_err-extend_from_slice-in-Some-bytes-clause-marks c =
    let at : IsSlotRead c.args.slots.now c.args.name.now c.in-Some.place c.index-slots-place.result =
    record { found = c.in-Some.ensures.found; is = c.index-slots-place.is } in
    held_set_same mark_of _ at (name_at at) refl

pub returns-in_ok-extend_from_slice-in-Some-bytes-clause-there : goal.returns-in_ok-extend_from_slice-in-Some-bytes-clause-there
returns-in_ok-extend_from_slice-in-Some-bytes-clause-there c =
    let at : IsSlotRead c.args.slots.now c.args.name.now c.in-Some.place c.index-slots-place.result =
    record { found = c.in-Some.ensures.found; is = c.index-slots-place.is } in
    sym (ap is_some (held_at bytes_of at ∙ ap (option_map (λ v. v.items)) c.in-Some-bytes.is))

pub returns-in_ok-extend_from_slice-in-Some-bytes-clause-ok : goal.returns-in_ok-extend_from_slice-in-Some-bytes-clause-ok
returns-in_ok-extend_from_slice-in-Some-bytes-clause-ok c =
    let at : IsSlotRead c.args.slots.now c.args.name.now c.in-Some.place c.index-slots-place.result =
    record { found = c.in-Some.ensures.found; is = c.index-slots-place.is } in
    held_set_to bytes_of _ _ at (name_at at) (ap Some c.in_ok-extend_from_slice-in-Some-bytes.ensures.items
    ∙ sym (ap (option_map (λ (bytes : List ℕ). bytes ++ c.args.piece.now))
    (held_at bytes_of at ∙ ap (option_map (λ v. v.items)) c.in-Some-bytes.is)))

pub returns-in_ok-extend_from_slice-in-Some-bytes-clause-marks : goal.returns-in_ok-extend_from_slice-in-Some-bytes-clause-marks
returns-in_ok-extend_from_slice-in-Some-bytes-clause-marks c =
    let at : IsSlotRead c.args.slots.now c.args.name.now c.in-Some.place c.index-slots-place.result =
    record { found = c.in-Some.ensures.found; is = c.index-slots-place.is } in
    held_set_same mark_of _ at (name_at at) refl

pub returns-in-None-clause-there : goal.returns-in-None-clause-there
returns-in-None-clause-there c =
    let at : IsSlotRead c.args.slots.now c.args.name.now c.in-Some.place c.index-slots-place.result =
    record { found = c.in-Some.ensures.found; is = c.index-slots-place.is } in
    sym (ap is_some (held_at bytes_of at ∙ ap (option_map (λ v. v.items)) c.in-None.is))

pub returns-in-None-clause-ok : goal.returns-in-None-clause-ok
returns-in-None-clause-ok c =
    let at : IsSlotRead c.args.slots.now c.args.name.now c.in-Some.place c.index-slots-place.result =
    record { found = c.in-Some.ensures.found; is = c.index-slots-place.is } in
    let absent = held_at bytes_of at ∙ ap (option_map (λ v. v.items)) c.in-None.is in
    held_set_same bytes_of _ at (name_at at) refl ∙ sym (appended_absent _ c.args.name.now c.args.piece.now absent)
