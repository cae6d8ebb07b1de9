-- What a call that may run out of memory answers.
use Rattle.std.specs.Prelude.{◌≡◌, ℕ, ⊤, Result, Ok, Err}
use Rattle.command_words.specs.declared.faults.WordFault.{WordFault}
use Rattle.command_words.specs.declared.faults.WordsErr.{WordsErr}
use Rattle.command_words.specs.declared.faults.WordsErr.TheVariants.{Bad, NoMemory}
use Rattle.command_words.specs.declared.faults.Refusal.{Refusal}
use Rattle.command_words.specs.declared.faults.Refusal.TheVariants.{Kind, NoMemory as NoRoom}

-- the fact holds of the fault, where words are refused for one
abbrev pub IfBad : (WordFault → Type 0) → WordsErr → Type 0
IfBad P (Bad fault) = P fault
IfBad P NoMemory = ⊤

-- the call gave what is defined, seen in this way, or refused with the defined kind, or ran out of memory
abbrev pub Answers : {T S : Type 0} → (T → S) → Result T Refusal → Result S ℕ → Type 0
Answers view (Ok x) defined = defined ≡ Ok (view x)
Answers view (Err (Kind kind)) defined = defined ≡ Err kind
Answers view (Err NoRoom) defined = ⊤
