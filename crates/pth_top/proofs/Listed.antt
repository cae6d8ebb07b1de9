-- The list of a file and its index, by what reading and building answer.
use Rattle.std.proofs.Common.{◌≡◌, ℕ, ◌≤◌, false, true, cond, List, [], ◌∷◌, length}
use Rattle.std.proofs.Common.{take, Option, Some, None, Result, Ok, Err, IfSome}
use Rattle.std.proofs.Common.{option_map, refl, sym, ap, ◌∙◌, arith}
use Rattle.std.specs.Prelude.{IsSomeAnd, nat_lt, codes}
use Rattle.std.specs.FinMap as fin
use Rattle.std.proofs.lemmas.Bool.{lt-ltb, le-ltb}
use Rattle.std.proofs.lemmas.List.{take_all}
use Rattle.build_outcome.specs.Index.{IndexData}
use Rattle.build_outcome.specs.Outcome.{Outcome, outcome_of}
use Rattle.command_words.specs.Options.{OptionsData}
use Rattle.hem_build.specs.Rules.{rules_of}
use Rattle.pth_outside.specs.Files.{FileMap, OfFile, contents}
use Rattle.pth_outside.specs.Keys.{keys_of, first_too_long, AreTooMany}
use Rattle.pth_top.specs.Done.{Done}
use Rattle.pth_top.specs.Lists.{and_then, too_long_result, too_many_result, no_keys_result, unless_too_long, list_in}
use Rattle.pth_top.specs.Lists.{index_by, index_for, index_in}

-- what holds of the bytes of a file, follows from what else holds of them
pub of_file : (told : Option FileMap) (name : List ℕ) (P Q : List ℕ → Type 0) → ((bytes : List ℕ) → P bytes → Q bytes) →
    OfFile told name P → OfFile told name Q
of_file told name P Q follows of = λ tells. found (contents told name) (of tells)
  where
    found : (bytes : Option (List ℕ)) → IsSomeAnd bytes P → IsSomeAnd bytes Q
    found None is = absurd is
    found (Some bytes) is = follows bytes is

-- the same from two facts
pub of_both : (told : Option FileMap) (name : List ℕ) (P Q R : List ℕ → Type 0) → ((bytes : List ℕ) → P bytes → Q bytes → R bytes) →
    OfFile told name P → OfFile told name Q → OfFile told name R
of_both told name P Q R follows of too = λ tells. found (contents told name) (of tells) (too tells)
  where
    found : (bytes : Option (List ℕ)) → IsSomeAnd bytes P → IsSomeAnd bytes Q → IsSomeAnd bytes R
    found None is = absurd is
    found (Some bytes) is = follows bytes is

-- what a file gives
pub over_file : (told : Option FileMap) (name : List ℕ) (give : List ℕ → Done) (d : Done) →
    OfFile told name (λ bytes. give bytes ≡ d) → IfSome told (λ m. option_map give (fin.get m name) ≡ Some d)
over_file None name give d of = tt
over_file (Some m) name give d of = found (fin.get m name) (of refl)
  where
    found : (bytes : Option (List ℕ)) → IsSomeAnd bytes (λ bytes. give bytes ≡ d) → option_map give bytes ≡ Some d
    found None is = absurd is
    found (Some bytes) is = ap Some is

-- a file that isn't there gives nothing
pub over_none : (told : Option FileMap) (name : List ℕ) (give : List ℕ → Done) → contents told name ≡ None →
    IfSome told (λ m. option_map give (fin.get m name) ≡ None)
over_none None name give none = tt
over_none (Some m) name give none = ap (option_map give) none

-- a list that is read
pub list_in-read : (what : List ℕ) (most : ℕ) (keys : List (List ℕ)) (bytes : List ℕ) → keys ≡ keys_of bytes → length keys ≤ most →
    first_too_long keys ≡ None → list_in what most bytes ≡ Ok keys
unfolding list_in
list_in-read what most keys bytes are few short =
    let small : nat_lt most (length keys) ≡ false = le-ltb most (length keys) few in
    let front : take most keys ≡ keys = take_all most keys few in
    let many : Result (List (List ℕ)) Done = Err (too_many_result what most) in
    ap (λ (ks : List (List ℕ)). unless_too_long what most ks (first_too_long (take most ks))) (sym are)
    ∙ ap (λ (ks : List (List ℕ)). unless_too_long what most keys (first_too_long ks)) front
    ∙ ap (unless_too_long what most keys) short
    ∙ ap (λ b. cond b many (Ok keys)) small

-- a list with a line that is too long
pub list_in-too_long : (what : List ℕ) (most line : ℕ) (bytes : List ℕ) → first_too_long (take most (keys_of bytes)) ≡ Some line →
    list_in what most bytes ≡ Err (too_long_result line)
unfolding list_in
list_in-too_long what most line bytes long = ap (unless_too_long what most (keys_of bytes)) long

-- a list with too many lines
pub list_in-too_many : (what : List ℕ) (most : ℕ) (bytes : List ℕ) → AreTooMany most (keys_of bytes) →
    list_in what most bytes ≡ Err (too_many_result what most)
unfolding list_in
list_in-too_many what most bytes many =
    let large : nat_lt most (length (keys_of bytes)) ≡ true = lt-ltb most (length (keys_of bytes)) many.more in
    let refused : Result (List (List ℕ)) Done = Err (too_many_result what most) in
    ap (unless_too_long what most (keys_of bytes)) many.short
    ∙ ap (λ b. cond b refused (Ok (keys_of bytes))) large

-- a list with no key
pub index_for-none : (o : OptionsData) (keys : List (List ℕ)) → length keys ≡ 0 → index_for o keys ≡ Err no_keys_result
unfolding index_for
index_for-none o [] none = refl
index_for-none o (key ∷ keys) none = absurd (omega arith)

-- a list with a key
pub index_for-some : (o : OptionsData) (keys : List (List ℕ)) (outcome : Outcome) → (length keys ≡ 0 → ⊥) →
    outcome_of (rules_of o.settings) keys o.settings.seeds ≡ outcome → index_for o keys ≡ index_by o.settings.seeds outcome
unfolding index_for
index_for-some o [] outcome some is = absurd (some refl)
index_for-some o (key ∷ keys) outcome some is = ap (index_by o.settings.seeds) is

-- the index of a file whose list is read
pub index_in-listed : (o : OptionsData) (keys : List (List ℕ)) (index : Result IndexData Done) (bytes : List ℕ) →
    list_in (codes "keys") o.most bytes ≡ Ok keys → index_for o keys ≡ index → index_in o bytes ≡ index
unfolding index_in
index_in-listed o keys index bytes listed is = ap (λ (list : Result (List (List ℕ)) Done). and_then list (index_for o)) listed ∙ is

-- the index of a file whose list is refused
pub index_in-refused : (o : OptionsData) (refusal : Done) (bytes : List ℕ) →
    list_in (codes "keys") o.most bytes ≡ Err refusal → index_in o bytes ≡ Err refusal
unfolding index_in
index_in-refused o refusal bytes refused = ap (λ (list : Result (List (List ℕ)) Done). and_then list (index_for o)) refused
