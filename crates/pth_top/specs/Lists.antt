-- What the bytes of a file of keys come to: its list of keys, their index, or why there is none.
use Rattle.std.specs.Prelude.{◌≡◌, ℕ, ◌+◌, List, [], ◌∷◌, ◌++◌, length, take}
use Rattle.std.specs.Prelude.{codes, nat_lt, if◌then◌else◌, Option, Some, None, Result, Ok, Err}
use Rattle.build_outcome.specs.Index.{IndexData}
use Rattle.build_outcome.specs.IndexLaws.{IsOneToOne}
use Rattle.build_outcome.specs.Outcome.{Outcome, repeated, exhausted, built, outcome_of}
use Rattle.build_outcome.specs.OutcomeLaws.{IsRepeat}
use Rattle.command_words.specs.Options.{OptionsData}
use Rattle.hem_build.specs.Rules.{rules_of}
use Rattle.pth_outside.specs.Keys.{keys_of, first_too_long}
use Rattle.pth_top.specs.declared.TheConstants.{LIST_REFUSED, REPEATED_KEY, SEEDS_EXHAUSTED}
use Rattle.pth_top.specs.Done.{Done, said}
use Rattle.pth_top.specs.Texts.{no_keys, too_long, too_many, repeated_key, seeds_exhausted, cause_lines}

-- a list with no key
abbrev pub no_keys_result : Done
no_keys_result = said LIST_REFUSED no_keys

-- a list with a line that is too long
abbrev pub too_long_result : ℕ → Done
too_long_result number = said LIST_REFUSED (too_long number)

-- a list of more than this many of these
abbrev pub too_many_result : List ℕ → ℕ → Done
too_many_result what most = said LIST_REFUSED (too_many what most)

-- the next step, unless there was a refusal
abbrev pub and_then : {A B : Type 0} → Result A Done → (A → Result B Done) → Result B Done
and_then (Ok x) next = next x
and_then (Err refusal) next = Err refusal

-- what something gives, unless there was a refusal
abbrev pub gives : {A : Type 0} → Result A Done → (A → Done) → Done
gives (Ok x) give = give x
gives (Err refusal) give = refusal

-- the lines, of which the first up to the limit may be too long
abbrev pub unless_too_long : List ℕ → ℕ → List (List ℕ) → Option ℕ → Result (List (List ℕ)) Done
unless_too_long what most lines (Some number) = Err (too_long_result number)
unless_too_long what most lines None = if nat_lt most (length lines) then Err (too_many_result what most) else Ok lines

-- the list of at most so many of these that the bytes of a file are, or its refusal
unfoldable pub list_in : List ℕ → ℕ → List ℕ → Result (List (List ℕ)) Done
list_in what most bytes = unless_too_long what most (keys_of bytes) (first_too_long (take most (keys_of bytes)))

-- the index that an outcome over these seeds has, or its refusal
abbrev pub index_by : List ℕ → Outcome → Result IndexData Done
index_by seeds (repeated i j) = Err (said REPEATED_KEY (repeated_key (i + 1) (j + 1)))
index_by seeds (exhausted causes) = Err (said SEEDS_EXHAUSTED (seeds_exhausted ++ cause_lines seeds causes))
index_by seeds (built x) = Ok x

-- the index of a list of keys, or its refusal
unfoldable pub index_for : OptionsData → List (List ℕ) → Result IndexData Done
index_for o [] = Err no_keys_result
index_for o (key ∷ keys) = index_by o.settings.seeds (outcome_of (rules_of o.settings) (key ∷ keys) o.settings.seeds)

-- the index of the keys that the bytes of a file are, or its refusal
unfoldable pub index_in : OptionsData → List ℕ → Result IndexData Done
index_in o bytes = and_then (list_in (codes "keys") o.most bytes) (index_for o)

-- some key stands at two places of the list
pub record HasRepeat (keys : List (List ℕ)) : Type 0 where
  pub first : ℕ
  pub second : ℕ
  pub repeat : IsRepeat keys first second

-- an index is that of the first seed that succeeds, and gives each of the keys a number of its own below their count
pub record IsIndexFor (o : OptionsData) (keys : List (List ℕ)) (x : IndexData) : Type 0 where
  pub outcome : outcome_of (rules_of o.settings) keys o.settings.seeds ≡ built x
  pub one_to_one : IsOneToOne x keys
