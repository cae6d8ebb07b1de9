-- Which command the first word names.
use Rattle.std.proofs.Common.{◌≡◌, List, [], ◌∷◌, length, Option, Err, refl, ap, sym, ◌∙◌, arith}
use Rattle.std.specs.Prelude.{String, string_bytes}
use Rattle.std.specs.declared.alloc.Global.{Global}
use Rattle.command_words.specs.declared.kinds.TheConstants.{MISSING}
use Rattle.command_words.specs.declared.words.Name.{Name}
use Rattle.command_words.specs.Options.{words_of}
use Rattle.command_words.specs.Words.{fault_at, name_of, command_named, command_of}

-- no words
pub command_of-nothing : (words : List (String Global)) → length words ≡ 0 →
    command_of (words_of words) ≡ Err (fault_at 0 MISSING)
unfolding command_of
command_of-nothing [] none = refl
command_of-nothing (word ∷ words) none = absurd (omega arith)

-- a first word that names a command, or none
pub command_of-named : (words : List (String Global)) (command : String Global) (rest : List (String Global))
    (name : Option Name) → words ≡ command ∷ rest → name ≡ name_of (string_bytes command) →
    command_of (words_of words) ≡ command_named name (words_of rest)
unfolding command_of
command_of-named words command rest name split is =
    ap (λ ws. command_of (words_of ws)) split ∙ ap (λ n. command_named n (words_of rest)) (sym is)
