-- The slots of files in memory: of those with one name the first counts.
use Rattle.std.specs.Prelude.{◌≡◌, ◌≢◌, ℕ, zero, suc, List, [], ◌∷◌, Option, Some, None, option_map, string_bytes, if◌then◌else◌}
use Rattle.std.specs.FinMap as map
use Rattle.pth_outside.specs.declared.slots.Slot.{Slot}
use Rattle.pth_outside.specs.Files.{AtNames, FileMap, put_at}

-- the name that a slot stands for
abbrev pub name_of : Slot → List ℕ
name_of slot = string_bytes slot.name

-- the bytes of its file, if it is there
abbrev pub bytes_of : Slot → Option (List ℕ)
bytes_of slot = option_map (λ v. v.items) slot.bytes

-- a mark for a slot whose file was created
abbrev pub mark_of : Slot → Option (Unit {0})
mark_of slot = if slot.created then Some tt else None

-- what the first slot with each name holds
abbrev pub held : {X : Type 0} → (Slot → Option X) → List Slot → AtNames X
held content [] = map.empty
held content (slot ∷ slots) = put_at (held content slots) (name_of slot) (content slot)

-- the files that slots stand for
abbrev pub files_of : List Slot → FileMap
files_of slots = held bytes_of slots

-- the names whose slots are marked
abbrev pub marks_of : List Slot → AtNames (Unit {0})
marks_of slots = held mark_of slots

-- the slot at this place is the first with the name
abbrev pub IsSlotOf : List Slot → List ℕ → ℕ → Type 0
IsSlotOf [] name i = ⊥
IsSlotOf (slot ∷ slots) name zero = name_of slot ≡ name
IsSlotOf (slot ∷ slots) name (suc i) = (name_of slot ≢ name) × IsSlotOf slots name i

-- no slot has the name
abbrev pub HasNoSlot : List Slot → List ℕ → Type 0
HasNoSlot [] name = Unit {0}
HasNoSlot (slot ∷ slots) name = (name_of slot ≢ name) × HasNoSlot slots name
