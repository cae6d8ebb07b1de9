-- The command that words ask for, or the first faulty word.
use Rattle.std.specs.Prelude.{ℕ, ◌+◌, ◌-◌, ◌^◌, List, [], ◌∷◌, string_bytes, codes, bytes_eq, if◌then◌else◌}
use Rattle.std.specs.Prelude.{Option, Some, None, Result, Ok, Err}
use Rattle.command_words.specs.declared.faults.WordFault.{WordFault}
use Rattle.command_words.specs.declared.kinds.TheConstants.{COMMAND, MISSING, EXTRA, SAME_NAME}
use Rattle.command_words.specs.declared.demo.TheConstants.{MAX_DEMO_KEYS}
use Rattle.command_words.specs.declared.words.Command.{Command}
use Rattle.command_words.specs.declared.words.Command.TheVariants.{Pilots, Build, Query, Check, Stats, Upgrade, Demo}
use Rattle.command_words.specs.declared.words.Name.{Name}
use Rattle.command_words.specs.declared.words.Name.TheVariants as name
use Rattle.command_words.specs.declared.words.TwoNames.{TwoNames}
use Rattle.command_words.specs.Names.{belongs_to_index, own_or_tmp}
use Rattle.command_words.specs.Options.{OptionsData, options_data}
use Rattle.command_words.specs.Settings.{Given, nothing_given, with_word, options_of}
use Rattle.command_words.specs.Values.{number_in}

-- a command: its names as bytes, and its settings or its numbers
pub data CommandData : Type 0 where
  PilotsOf : List ℕ → OptionsData → CommandData
  BuildOf : List ℕ → List ℕ → OptionsData → CommandData
  QueryOf : List ℕ → List ℕ → CommandData
  CheckOf : List ℕ → List ℕ → CommandData
  UpgradeOf : List ℕ → List ℕ → CommandData
  StatsOf : List ℕ → CommandData
  DemoOf : ℕ → ℕ → CommandData

-- a command as data
abbrev pub command_data : Command → CommandData
command_data (Pilots keys options) = PilotsOf (string_bytes keys) (options_data options)
command_data (Build keys index options) = BuildOf (string_bytes keys) (string_bytes index) (options_data options)
command_data (Query index queries) = QueryOf (string_bytes index) (string_bytes queries)
command_data (Check index keys) = CheckOf (string_bytes index) (string_bytes keys)
command_data (Upgrade index keys) = UpgradeOf (string_bytes index) (string_bytes keys)
command_data (Stats index) = StatsOf (string_bytes index)
command_data (Demo demo) = DemoOf demo.count demo.seed

-- a fault of this kind in this word
abbrev pub fault_at : ℕ → ℕ → WordFault
fault_at word kind = record { word = word; kind = kind }

-- what comes after a word: the rest from its values on, or the fault that it has
abbrev pub after_word : ℕ → Result Given ℕ → (Given → Result Given WordFault) → Result Given WordFault
after_word word (Err kind) rest = Err (fault_at word kind)
after_word word (Ok next) rest = rest next

-- the values that settings give after others, the first of them in this word; the first faulty word decides
unfoldable pub given_by : List (List ℕ) → ℕ → Given → Result Given WordFault
given_by [] word g = Ok g
given_by (text ∷ texts) word g = after_word word (with_word text g) (λ next. given_by texts (word + 1) next)

-- the settings that these values come to
abbrev pub settled : Result Given WordFault → Result OptionsData WordFault
settled (Err fault) = Err fault
settled (Ok g) = Ok (options_of g)

-- the settings that words give, the first of them in this word
abbrev pub options_in : List (List ℕ) → ℕ → Result OptionsData WordFault
options_in words first = settled (given_by words first nothing_given)

-- a command with settings, or their fault
abbrev pub with_options : (OptionsData → CommandData) → Result OptionsData WordFault → Result CommandData WordFault
with_options command (Err fault) = Err fault
with_options command (Ok options) = Ok (command options)

-- the command `pilots`, from the words after it: the key file, and settings
abbrev pub pilots_of : List (List ℕ) → Result CommandData WordFault
pilots_of [] = Err (fault_at 1 MISSING)
pilots_of (keys ∷ settings) = with_options (PilotsOf keys) (options_in settings 2)

-- a command on a key file and an index, unless the key file is named as its build may write
abbrev pub unless_same : List ℕ → List ℕ → Result CommandData WordFault → Result CommandData WordFault
unless_same keys index (Err fault) = Err fault
unless_same keys index (Ok command) = if belongs_to_index keys index then Err (fault_at 1 SAME_NAME) else Ok command

-- the command `build`, from the words after it: the key file, the index, and settings
abbrev pub build_of : List (List ℕ) → Result CommandData WordFault
build_of [] = Err (fault_at 1 MISSING)
build_of (keys ∷ []) = Err (fault_at 2 MISSING)
build_of (keys ∷ index ∷ settings) = unless_same keys index (with_options (BuildOf keys index) (options_in settings 3))

-- two names as bytes
abbrev pub names_data : TwoNames → List ℕ × List ℕ
names_data names = (string_bytes names.first, string_bytes names.second)

-- the two names that words are, with no word after them
abbrev pub two_names : List (List ℕ) → Result (List ℕ × List ℕ) WordFault
two_names [] = Err (fault_at 1 MISSING)
two_names (first ∷ []) = Err (fault_at 2 MISSING)
two_names (first ∷ second ∷ []) = Ok (first, second)
two_names (first ∷ second ∷ extra ∷ more) = Err (fault_at 3 EXTRA)

-- a command on two names, or their fault
abbrev pub with_names : (List ℕ → List ℕ → CommandData) → Result (List ℕ × List ℕ) WordFault → Result CommandData WordFault
with_names command (Err fault) = Err fault
with_names command (Ok names) = Ok (command names.0 names.1)

-- the command `query`, from the words after it: the index and the queries
abbrev pub query_of : List (List ℕ) → Result CommandData WordFault
query_of words = with_names QueryOf (two_names words)

-- the command `check`, from the words after it: the index and the key file
abbrev pub check_of : List (List ℕ) → Result CommandData WordFault
check_of words = with_names CheckOf (two_names words)

-- the command `upgrade` on an index and a key file, unless the key file is named as the index is written
abbrev pub unless_own : Result (List ℕ × List ℕ) WordFault → Result CommandData WordFault
unless_own (Err fault) = Err fault
unless_own (Ok names) = if own_or_tmp names.1 names.0 then Err (fault_at 2 SAME_NAME) else Ok (UpgradeOf names.0 names.1)

-- the command `upgrade`, from the words after it: the index and the key file
abbrev pub upgrade_of : List (List ℕ) → Result CommandData WordFault
upgrade_of words = unless_own (two_names words)

-- the command `stats`, from the words after it: the index
abbrev pub stats_of : List (List ℕ) → Result CommandData WordFault
stats_of [] = Err (fault_at 1 MISSING)
stats_of (index ∷ []) = Ok (StatsOf index)
stats_of (index ∷ extra ∷ more) = Err (fault_at 2 EXTRA)

-- what the number of a word is, or its fault
abbrev pub in_word : ℕ → Result ℕ ℕ → Result ℕ WordFault
in_word word (Err kind) = Err (fault_at word kind)
in_word word (Ok n) = Ok n

-- the command `demo` of two numbers, or the fault of the first that has one, unless more words come after them
abbrev pub demo_by : Result ℕ WordFault → Result ℕ WordFault → List (List ℕ) → Result CommandData WordFault
demo_by (Err fault) seed more = Err fault
demo_by (Ok count) (Err fault) more = Err fault
demo_by (Ok count) (Ok seed) [] = Ok (DemoOf count seed)
demo_by (Ok count) (Ok seed) (extra ∷ more) = Err (fault_at 3 EXTRA)

-- the command `demo`, from the words after it: how many keys, and their seed, which is any number
abbrev pub demo_of : List (List ℕ) → Result CommandData WordFault
demo_of [] = Err (fault_at 1 MISSING)
demo_of (count ∷ []) = Err (fault_at 2 MISSING)
demo_of (count ∷ seed ∷ more) = demo_by (in_word 1 (number_in 1 MAX_DEMO_KEYS count)) (in_word 2 (number_in 0 (2 ^ 64 - 1) seed)) more

-- the name of a command that a word is
abbrev pub name_of : List ℕ → Option Name
name_of word =
    if bytes_eq word (codes "pilots") then Some name.Pilots
    else if bytes_eq word (codes "build") then Some name.Build
    else if bytes_eq word (codes "query") then Some name.Query
    else if bytes_eq word (codes "check") then Some name.Check
    else if bytes_eq word (codes "upgrade") then Some name.Upgrade
    else if bytes_eq word (codes "stats") then Some name.Stats
    else if bytes_eq word (codes "demo") then Some name.Demo
    else None

-- the command of a name, from the words after it
abbrev pub command_named : Option Name → List (List ℕ) → Result CommandData WordFault
command_named None words = Err (fault_at 0 COMMAND)
command_named (Some name.Pilots) words = pilots_of words
command_named (Some name.Build) words = build_of words
command_named (Some name.Query) words = query_of words
command_named (Some name.Check) words = check_of words
command_named (Some name.Upgrade) words = upgrade_of words
command_named (Some name.Stats) words = stats_of words
command_named (Some name.Demo) words = demo_of words

-- the command that the words after the program's name ask for, or the first faulty word
unfoldable pub command_of : List (List ℕ) → Result CommandData WordFault
command_of [] = Err (fault_at 0 MISSING)
command_of (command ∷ words) = command_named (name_of command) words
