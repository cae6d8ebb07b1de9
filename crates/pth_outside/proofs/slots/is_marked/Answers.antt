use Rattle.std.proofs.Common.{Bool, true, false, refl, sym, ap, ◌≡◌, ◌∙◌, Some, None, cond, is_some}
use Rattle.pth_outside.specs.Slots.{mark_of}
use Rattle.pth_outside.proofs.SlotLemmas.{IsSlotRead, held_at, held_absent}
use Rattle.pth_outside.proofs.slots.is_marked.Goals as goal

-- a mark is there where the slot has one
marked : (b : Bool) → b ≡ is_some {T = Unit {0}} (cond b (Some tt) None)
marked true = refl
marked false = refl

pub returns-in-Some : goal.returns-in-Some
returns-in-Some c =
    let at : IsSlotRead c.args.slots.now c.args.name.now c.in-Some.place c.index-slots-place.result =
    record { found = c.in-Some.ensures.found; is = c.index-slots-place.is } in
    marked _ ∙ ap is_some (sym (held_at mark_of at))

pub returns-in-None : goal.returns-in-None
returns-in-None c = ap is_some (sym (held_absent mark_of c.args.slots.now c.args.name.now c.in-None.ensures.none))
