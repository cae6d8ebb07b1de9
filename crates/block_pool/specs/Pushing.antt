-- What a push did.
use Rattle.pthash.specs.declared.Record.{Record}
use Rattle.block_pool.specs.declared.blocks.Push.{Push}
use Rattle.block_pool.specs.declared.blocks.Push.TheVariants.{Kept, Full}

-- the record was kept
abbrev pub IsKept : Push → Type 0
IsKept Kept = Unit {0}
IsKept (Full back) = ⊥

-- there was no block for the record
abbrev pub IsFull : Push → Type 0
IsFull Kept = ⊥
IsFull (Full back) = Unit {0}

-- a fact of the record that came back, if one did
abbrev pub IfFull : Push → (Record → Type 0) → Type 0
IfFull Kept P = Unit {0}
IfFull (Full back) P = P back
