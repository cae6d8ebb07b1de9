-- Faults as what a reading ends with, and the steps of a reading in turn.
use Rattle.std.specs.Prelude.{ℕ, ◌≡◌, nat_lt, List, length, Result, Ok, Err, if◌then◌else◌}
use Rattle.elias_fano.specs.declared.fault.FormFault.{FormFault}
use Rattle.elias_fano.specs.Values.{below_len}
use Rattle.elias_fano.specs.declared.fault.ReadErr.{ReadErr}
use Rattle.elias_fano.specs.declared.fault.ReadErr.TheVariants as errors
use Rattle.index_text.specs.declared.fault.IndexFault.{IndexFault}
use Rattle.index_text.specs.declared.fault.IndexFault.TheVariants as faults

infixl 10 ◌>>=◌
-- the next step, unless there was a fault
abbrev pub ◌>>=◌ : {A B : Type 0} → Result A IndexFault → (A → Result B IndexFault) → Result B IndexFault
(Ok x) >>= f = f x
(Err e) >>= f = Err e

-- what the reading of a list gives
abbrev pub formed : {A : Type 0} → Result A FormFault → Result A IndexFault
formed (Ok x) = Ok x
formed (Err f) = Err (faults.Form f)

-- a list all of whose values are below a bound; else the fault of the first that isn't
abbrev pub all_below : ℕ → (ℕ → IndexFault) → (List ℕ × List ℕ) → Result (List ℕ × List ℕ) IndexFault
all_below bound fault list =
    if nat_lt (below_len bound list.0) (length list.0) then Err (fault (below_len bound list.0)) else Ok list

-- the fault of a list, unless memory ran out
abbrev pub fault_of_list : ReadErr → IndexFault
fault_of_list errors.NoMemory = faults.NoMemory
fault_of_list (errors.Form f) = faults.Form f

-- a fault that a function returned is what reading gives, unless memory ran out
abbrev pub Fails : {Y : Type 0} → IndexFault → Result Y IndexFault → Type 0
Fails faults.NoMemory read = Unit {0}
Fails e read = read ≡ Err e

-- what a function returned, seen by view, is what reading gives, unless memory ran out
abbrev pub Gives : {X Y : Type 0} → (X → Y) → Result X IndexFault → Result Y IndexFault → Type 0
Gives view (Ok x) read = read ≡ Ok (view x)
Gives view (Err e) read = Fails e read
