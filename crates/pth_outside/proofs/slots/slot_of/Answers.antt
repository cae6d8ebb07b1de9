use Rattle.std.proofs.Common.{refl}
use Rattle.pth_outside.specs.Slots.{bytes_of, mark_of}
use Rattle.pth_outside.proofs.SlotLemmas.{IsSlotOf-push, held_push_empty}
use Rattle.pth_outside.proofs.slots.slot_of.Goals as goal

pub returns-clause-found : goal.returns-clause-found
returns-clause-found c =
    let none = rw c.deref.ensures.value at c.in_default.ensures.none in
    rw (c.in_ok-push.ensures.items, c.len-place.ensures, c.args.slots.now.ok.0)
    (IsSlotOf-push c.args.slots.now.items c.args.name.now _ none c.in_ok-from_str.ensures.ok)

pub returns-clause-files : goal.returns-clause-files
returns-clause-files c =
    let none = rw c.deref.ensures.value at c.in_default.ensures.none in
    rw c.in_ok-push.ensures.items (held_push_empty bytes_of c.args.slots.now.items c.args.name.now _ none c.in_ok-from_str.ensures.ok refl)

pub returns-clause-created : goal.returns-clause-created
returns-clause-created c =
    let none = rw c.deref.ensures.value at c.in_default.ensures.none in
    rw c.in_ok-push.ensures.items (held_push_empty mark_of c.args.slots.now.items c.args.name.now _ none c.in_ok-from_str.ensures.ok refl)
