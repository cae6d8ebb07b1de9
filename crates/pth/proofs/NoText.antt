-- Words that are no text are refused as a first word that names no command.
use Rattle.std.proofs.Common.{◌≡◌, ℕ, List, [], ◌∷◌, Result, Ok, Err, IfErr, IsErr, ap}
use Rattle.std.specs.Prelude.{String, string_bytes, is_err}
use Rattle.std.specs.declared.alloc.Global.{Global}
use Rattle.command_words.specs.declared.kinds.TheConstants.{COMMAND}
use Rattle.command_words.specs.Options.{words_of}
use Rattle.command_words.specs.Words.{command_of, fault_at}

-- what holds of any error holds of the one that is there
pub of_any : {T E : Type 0} → (answer : Result T E) (P : E → Type 0) → ((e : E) → P e) → IfErr answer P
of_any (Ok value) P holds = tt
of_any (Err e) P holds = holds e

-- a first word of no bytes is no command
pub no_command : (text : String Global) → string_bytes text ≡ [] → command_of (words_of (text ∷ [])) ≡ Err (fault_at 0 COMMAND)
unfolding command_of
no_command text is = ap (λ (word : List ℕ). command_of (word ∷ [])) is

-- so it is refused
pub is_refused : (text : String Global) → string_bytes text ≡ [] → IsErr (command_of (words_of (text ∷ [])))
is_refused text is = ap is_err (no_command text is)
