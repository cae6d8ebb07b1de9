-- One word of settings after another.
use Rattle.std.proofs.Common.{◌≡◌, ℕ, ◌+◌, ◌<◌, ◌≤◌, List, ◌∷◌, length, get_or, drop, Some, None, Result, Ok, Err, sym, ap, subst, ◌∙◌, arith}
use Rattle.std.specs.Prelude.{String, string_bytes}
use Rattle.std.specs.declared.alloc.Global.{Global}
use Rattle.std.proofs.lemmas.List.{at_drop_more, at_drop_all}
use Rattle.command_words.specs.declared.kinds.TheConstants.{NAME}
use Rattle.command_words.specs.declared.chosen.TheConstants.{EQUALS}
use Rattle.command_words.specs.declared.faults.WordFault.{WordFault}
use Rattle.command_words.specs.declared.chosen.Setting.{Setting}
use Rattle.command_words.specs.declared.faults.Refusal.{Refusal}
use Rattle.command_words.specs.declared.faults.Refusal.TheVariants.{Kind}
use Rattle.command_words.specs.Options.{words_of}
use Rattle.command_words.specs.Refusals.{Answers}
use Rattle.command_words.specs.Settings.{Given, setting_of, with_value, with_named, with_parts, with_word}
use Rattle.command_words.specs.Values.{cut_at}
use Rattle.command_words.specs.Words.{fault_at, after_word, given_by}

-- a word with no equals sign
pub with_word-uncut : (word : List ℕ) (g : Given) → cut_at EQUALS word ≡ None → with_word word g ≡ Err NAME
unfolding with_word
with_word-uncut word g cut = ap (λ r. with_parts r g) cut

-- a word whose name is no setting's
pub with_word-unnamed : (word name text : List ℕ) (g : Given) → cut_at EQUALS word ≡ Some (name, text) →
    None ≡ setting_of name → with_word word g ≡ Err NAME
unfolding with_word
with_word-unnamed word name text g cut none =
    ap (λ r. with_parts r g) cut ∙ ap (λ s. with_named s text g) (sym none)

-- a word that names a setting
pub with_word-named : (word name text : List ℕ) (setting : Setting) (g : Given) →
    cut_at EQUALS word ≡ Some (name, text) → Some setting ≡ setting_of name →
    with_value setting text g ≡ with_word word g
unfolding with_word
with_word-named word name text setting g cut is =
    sym (ap (λ r. with_parts r g) cut ∙ ap (λ s. with_named s text g) (sym is))

-- the words from one on, where that one is good
given_by-good : (word : List ℕ) (words : List (List ℕ)) (place : ℕ) (g next : Given) → with_word word g ≡ Ok next →
    given_by (word ∷ words) place g ≡ given_by words (place + 1) next
unfolding given_by
given_by-good word words place g next is =
    ap (λ r. after_word place r (λ next. given_by words (place + 1) next)) is

-- the words from one on, where that one is faulty
given_by-faulty : (word : List ℕ) (words : List (List ℕ)) (place kind : ℕ) (g : Given) →
    with_word word g ≡ Err kind → given_by (word ∷ words) place g ≡ Err (fault_at place kind)
unfolding given_by
given_by-faulty word words place kind g is =
    ap (λ r. after_word place r (λ next. given_by words (place + 1) next)) is

-- the loop goes on after a good word
pub given_by-next : (words : List (String Global)) (k first : ℕ) (word : String Global) (g next : Given)
    (all : Result Given WordFault) → k < length words → word ≡ get_or words k word →
    with_word (string_bytes word) g ≡ Ok next → given_by (words_of (drop k words)) (first + k) g ≡ all →
    given_by (words_of (drop (k + 1) words)) (first + (k + 1)) next ≡ all
given_by-next words k first word g next all inside at good so_far =
    let place : first + (k + 1) ≡ first + k + 1 = omega arith in
    ap (λ p. given_by (words_of (drop (k + 1) words)) p next) place
    ∙ sym (at_drop_more (λ ws. given_by (words_of ws) (first + k) g) words k word inside
    ∙ ap (λ w. given_by (words_of (w ∷ drop (k + 1) words)) (first + k) g) (sym at)
    ∙ given_by-good (string_bytes word) (words_of (drop (k + 1) words)) (first + k) g next good)
    ∙ so_far

-- the loop ends at a faulty word
pub given_by-stop : (words : List (String Global)) (k first kind : ℕ) (word : String Global) (g : Given)
    (all : Result Given WordFault) → k < length words → word ≡ get_or words k word →
    with_word (string_bytes word) g ≡ Err kind → given_by (words_of (drop k words)) (first + k) g ≡ all →
    all ≡ Err (fault_at (first + k) kind)
given_by-stop words k first kind word g all inside at bad so_far =
    sym so_far
    ∙ at_drop_more (λ ws. given_by (words_of ws) (first + k) g) words k word inside
    ∙ ap (λ w. given_by (words_of (w ∷ drop (k + 1) words)) (first + k) g) (sym at)
    ∙ given_by-faulty (string_bytes word) (words_of (drop (k + 1) words)) (first + k) kind g bad

-- no word is left
pub given_by-end : (words : List (String Global)) (k place : ℕ) (g : Given) (all : Result Given WordFault) →
    length words ≤ k → given_by (words_of (drop k words)) place g ≡ all → all ≡ Ok g
unfolding given_by
given_by-end words k place g all end so_far =
    sym so_far ∙ at_drop_all (λ ws. given_by (words_of ws) place g) words k end

-- a call that refuses a word refuses it with the defined kind
pub refused_with : {T S : Type 0} (view : T → S) (e : Refusal) (kind : ℕ) (defined : Result S ℕ) →
    Answers view (Err e) defined → e ≡ Kind kind → defined ≡ Err kind
refused_with view e kind defined a is = subst (λ e. Answers view (Err e) defined) is a
