-- The slots of files in memory.
use Rattle.std.proofs.Common.{◌≡◌, ◌≢◌, ◌<◌, ◌≤◌, ℕ, zero, suc, List, [], ◌∷◌, ◌++◌, Option, Some, None, length, take}
use Rattle.std.proofs.Common.{set, get_or, sym, ap, subst, ◌∙◌, arith}
use Rattle.std.proofs.lemmas.List.{take_all}
use Rattle.std.specs.FinMap as map
use Rattle.pth_outside.specs.declared.slots.Slot.{Slot}
use Rattle.std.specs.Ordering.{nat_cmp}
use Rattle.std.specs.Cmp.Lexicographic.{slice_cmp}
use Rattle.std.specs.Option.{option_map}
use Rattle.std.specs.Result.{OnErr}
use Rattle.std.specs.Prelude.{Result, Ok, Err}
use Rattle.pth_outside.specs.Files.{AtNames, FileMap, put_at, appended, removed, published}
use Rattle.pth_outside.specs.Slots.{name_of, bytes_of, held, files_of, IsSlotOf, HasNoSlot}
use Rattle.pth_outside.proofs.AtNamesLemmas.{put_put, put_swap, put_same, get_put, get_put_other}

-- no slot before the next one has the name either
pub none_more : (slots : List Slot) (name : List ℕ) (i : ℕ) (s : Slot) → i < length slots → s ≡ get_or slots i s →
    name_of s ≢ name → HasNoSlot (take i slots) name → HasNoSlot (take (suc i) slots) name
none_more [] name i s within is other none = absurd (omega arith)
none_more (x ∷ slots) name zero s within is other none = (λ e. other (ap name_of is ∙ e), tt)
none_more (x ∷ slots) name (suc i) s within is other none = (none.0, none_more slots name i s (omega arith) is other none.1)

-- the first slot with the name
pub slot_found : (slots : List Slot) (name : List ℕ) (i : ℕ) (s : Slot) → i < length slots → s ≡ get_or slots i s →
    name_of s ≡ name → HasNoSlot (take i slots) name → IsSlotOf slots name i
slot_found [] name i s within is same none = absurd (omega arith)
slot_found (x ∷ slots) name zero s within is same none = ap name_of (sym is) ∙ same
slot_found (x ∷ slots) name (suc i) s within is same none = (none.0, slot_found slots name i s (omega arith) is same none.1)

-- no slot at all
pub none_at_end : (slots : List Slot) (name : List ℕ) (i : ℕ) → length slots ≤ i → HasNoSlot (take i slots) name →
    HasNoSlot slots name
none_at_end slots name i all none = let P : List Slot → Type 0 = λ xs. HasNoSlot xs name in subst P (take_all i slots all) none

-- the slot's place is one of the list
pub IsSlotOf-within : (slots : List Slot) (name : List ℕ) (i : ℕ) → IsSlotOf slots name i → i < length slots
IsSlotOf-within [] name i found = absurd found
IsSlotOf-within (x ∷ slots) name zero found = omega arith
IsSlotOf-within (x ∷ slots) name (suc i) found = omega (arith, IsSlotOf-within slots name i found.1)

-- its name is the one that was looked for
pub name_of_found : (slots : List Slot) (name : List ℕ) (i : ℕ) (s : Slot) → IsSlotOf slots name i →
    s ≡ get_or slots i s → name_of s ≡ name
name_of_found [] name i s found is = absurd found
name_of_found (x ∷ slots) name zero s found is = ap name_of is ∙ found
name_of_found (x ∷ slots) name (suc i) s found is = name_of_found slots name i s found.1 is

-- a slot with a new name, pushed
pub IsSlotOf-push : (slots : List Slot) (name : List ℕ) (s : Slot) → HasNoSlot slots name → name_of s ≡ name →
    IsSlotOf (slots ++ s ∷ []) name (length slots)
IsSlotOf-push [] name s none same = same
IsSlotOf-push (x ∷ slots) name s none same = (none.0, IsSlotOf-push slots name s none.1 same)

-- another slot with the same name in its place moves no name
pub IsSlotOf-set : (slots : List Slot) (name other : List ℕ) (i j : ℕ) (s : Slot) → IsSlotOf slots name i →
    IsSlotOf slots other j → name_of s ≡ name → IsSlotOf (set slots i s) other j
IsSlotOf-set [] name other i j s found there same = absurd found
IsSlotOf-set (x ∷ slots) name other zero zero s found there same = same ∙ sym found ∙ there
IsSlotOf-set (x ∷ slots) name other zero (suc j) s found there same = (λ e. there.0 (found ∙ sym same ∙ e), there.1)
IsSlotOf-set (x ∷ slots) name other (suc i) zero s found there same = there
IsSlotOf-set (x ∷ slots) name other (suc i) (suc j) s found there same = (there.0, IsSlotOf-set slots name other i j s found.1 there.1 same)

module _ {X : Type 0} (content : Slot → Option X) where
  -- a name that no slot has
  pub held_absent : (slots : List Slot) (name : List ℕ) → HasNoSlot slots name →
      map.get (held content slots) name ≡ None
  held_absent [] name none = map.get-empty (slice_cmp nat_cmp) name
  held_absent (x ∷ slots) name none = get_put_other (held content slots) (name_of x) (content x) name (λ e. none.0 (sym e)) ∙ held_absent slots name none.1

  -- what the slot at its place holds
  pub held_get : (slots : List Slot) (name : List ℕ) (i : ℕ) (s : Slot) → IsSlotOf slots name i →
      s ≡ get_or slots i s → map.get (held content slots) name ≡ content s
  held_get [] name i s found is = absurd found
  held_get (x ∷ slots) name zero s found is =
      ap (map.get (held content (x ∷ slots))) (sym found) ∙ get_put (held content slots) (name_of x) (content x) ∙ ap content (sym is)
  held_get (x ∷ slots) name (suc i) s found is =
      get_put_other (held content slots) (name_of x) (content x) name (λ e. found.0 (sym e)) ∙ held_get slots name i s found.1 is

  -- another slot in its place
  pub held_set : (slots : List Slot) (name : List ℕ) (i : ℕ) (s : Slot) → IsSlotOf slots name i → name_of s ≡ name →
      held content (set slots i s) ≡ put_at (held content slots) name (content s)
  held_set [] name i s found same = absurd found
  held_set (x ∷ slots) name zero s found same =
      ap (λ (n : List ℕ). put_at (held content slots) n (content s)) same
      ∙ sym (put_put (held content slots) name (content x) (content s))
      ∙ ap (λ (n : List ℕ). put_at (put_at (held content slots) n (content x)) name (content s)) (sym found)
  held_set (x ∷ slots) name (suc i) s found same =
      ap (λ (m : AtNames X). put_at m (name_of x) (content x)) (held_set slots name i s found.1 same)
      ∙ put_swap (held content slots) name (name_of x) (content s) (content x) (λ e. found.0 (sym e))

  -- a slot with a new name, pushed
  pub held_push : (slots : List Slot) (name : List ℕ) (s : Slot) → HasNoSlot slots name → name_of s ≡ name →
      held content (slots ++ s ∷ []) ≡ put_at (held content slots) name (content s)
  held_push [] name s none same = ap (λ (n : List ℕ). put_at map.empty n (content s)) same
  held_push (x ∷ slots) name s none same =
      ap (λ (m : AtNames X). put_at m (name_of x) (content x)) (held_push slots name s none.1 same)
      ∙ put_swap (held content slots) name (name_of x) (content s) (content x) (λ e. none.0 (sym e))

  -- an empty slot changes nothing
  pub held_push_empty : (slots : List Slot) (name : List ℕ) (s : Slot) → HasNoSlot slots name → name_of s ≡ name →
      content s ≡ None → held content (slots ++ s ∷ []) ≡ held content slots
  held_push_empty slots name s none same empty =
      held_push slots name s none same ∙ put_same (held content slots) name (content s) (held_absent slots name none ∙ sym empty)

-- the first slot with a name was read, and this is what stands there
pub record IsSlotRead (slots : List Slot) (name : List ℕ) (i : ℕ) (x : Slot) : Type 0 where
  pub found : IsSlotOf slots name i
  pub is : x ≡ get_or slots i x

-- the slot that was read has the name
pub name_read : {slots : List Slot} {name : List ℕ} {i : ℕ} {x : Slot} → IsSlotRead slots name i x → name_of x ≡ name
name_read {slots = slots} {name = name} {i = i} {x = x} read = name_of_found slots name i x read.found read.is

-- the same of the slot in its place
pub name_at : {slots : List Slot} {name : List ℕ} {i : ℕ} {x : Slot} → IsSlotRead slots name i x →
    name_of (get_or slots i x) ≡ name
name_at read = ap name_of (sym read.is) ∙ name_read read

module _ {X : Type 0} (content : Slot → Option X) {slots : List Slot} {name : List ℕ} {i : ℕ} {x : Slot} where
  -- what the slot holds that was read
  pub held_at : IsSlotRead slots name i x → map.get (held content slots) name ≡ content (get_or slots i x)
  held_at read = held_get content slots name i x read.found read.is ∙ ap content read.is

  -- another slot in its place that holds this
  pub held_set_to : (s : Slot) (v : Option X) → IsSlotRead slots name i x → name_of s ≡ name → content s ≡ v →
      held content (set slots i s) ≡ put_at (held content slots) name v
  held_set_to s v read same is =
      held_set content slots name i s read.found same ∙ ap (put_at (held content slots) name) is

  -- another slot in its place that holds the same
  pub held_set_same : (s : Slot) → IsSlotRead slots name i x → name_of s ≡ name →
      content s ≡ content (get_or slots i x) → held content (set slots i s) ≡ held content slots
  held_set_same s read same holds =
      held_set content slots name i s read.found same
      ∙ put_same (held content slots) name (content s) (held_at read ∙ sym holds)

-- to append to a file that is missing changes nothing
pub appended_absent : (files : FileMap) (name piece : List ℕ) → map.get files name ≡ None →
    appended name piece files ≡ files
appended_absent files name piece none =
    put_same files name (option_map (λ bytes. bytes ++ piece) (map.get files name))
    (none ∙ ap (option_map (λ (bytes : List ℕ). bytes ++ piece)) (sym none))

-- what a clause says of an error
pub on_err : {T E P : Type 0} (r : Result T E) → P → OnErr r P
on_err (Ok x) p = tt
on_err (Err e) p = p

-- the same change of the same map
pub moved : {X : Type 0} (name : List ℕ) (x : Option X) (m n : AtNames X) → m ≡ n → put_at m name x ≡ put_at n name x
moved {X = X} name x m n same = ap (λ (k : AtNames X). put_at k name x) same

-- the bytes of a file that was taken away, put under another name
pub files_of-published : (before between after : List Slot) (from to bytes : List ℕ) (place : ℕ) (x s : Slot) →
    from ≢ to → files_of between ≡ files_of before → Some bytes ≡ map.get (files_of between) from →
    files_of after ≡ removed from (files_of between) → IsSlotOf after to place → x ≡ get_or after place x →
    name_of s ≡ name_of x → bytes_of s ≡ Some bytes →
    files_of (set after place s) ≡ published from to (files_of before)
files_of-published before between after from to bytes place x s differ same had gone there is named holds =
    (let read : IsSlotRead after to place x = record { found = there; is = is } in
    held_set_to bytes_of s (Some bytes) read (named ∙ name_read read) holds)
    ∙ moved to (Some bytes) (files_of after) (removed from (files_of between)) gone
    ∙ put_swap (files_of between) from to None (Some bytes) differ
    ∙ ap (λ (o : Option (List ℕ)). put_at (put_at (files_of between) to o) from None) had
    ∙ ap (λ (m : FileMap). published from to m) same
