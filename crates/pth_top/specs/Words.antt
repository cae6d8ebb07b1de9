-- What the words after the program's name give over files.
use Rattle.std.specs.Prelude.{ℕ, List, Option, Some, Result, Ok, Err, IsSomeAnd, option_map, option_and_then}
use Rattle.std.specs.FinMap as fin
use Rattle.command_words.specs.declared.faults.WordFault.{WordFault}
use Rattle.command_words.specs.Words.{CommandData, PilotsOf, BuildOf, QueryOf, CheckOf, StatsOf, UpgradeOf, DemoOf, command_of}
use Rattle.demo_index.specs.Keys.{demo_keys_of}
use Rattle.index_file.specs.Encoded.{EncodedIndex}
use Rattle.pth_outside.specs.Files.{FileMap, contents}
use Rattle.pth_outside.specs.Keys.{keys_of}
use Rattle.pth_top.specs.declared.TheConstants.{WORDS_REFUSED}
use Rattle.pth_top.specs.Done.{Done, NewFileData, said}
use Rattle.pth_top.specs.Build.{build_result, IsFileFor}
use Rattle.pth_top.specs.Demo.{demo_result}
use Rattle.pth_top.specs.Lists.{HasRepeat}
use Rattle.pth_top.specs.Pilots.{pilots_result}
use Rattle.pth_top.specs.Check.{check_result}
use Rattle.pth_top.specs.Query.{index_read, query_result}
use Rattle.pth_top.specs.Stats.{stats_result}
use Rattle.pth_top.specs.Texts.{refused_word}
use Rattle.pth_top.specs.Upgrade.{upgrade_result}

-- the answer to words with this fault
abbrev pub refused : WordFault → Done
refused fault = said WORDS_REFUSED (refused_word fault.word fault.kind)

-- the refusal of an index, or what comes after it
abbrev pub with_index : Result EncodedIndex Done → (EncodedIndex → Option Done) → Option Done
with_index (Err refusal) next = Some refusal
with_index (Ok index) next = next index

-- what an index and a second file give; a refused index decides without the second
abbrev pub over_index : FileMap → List ℕ → List ℕ → (EncodedIndex → List ℕ → Done) → Option Done
over_index files index second give =
    option_and_then (λ bytes. with_index (index_read bytes) (λ x. option_map (give x) (fin.get files second))) (fin.get files index)

-- what a command gives, or a fault of its words; a command on a file that isn't there gives nothing
abbrev pub command_result : Result CommandData WordFault → FileMap → Option Done
command_result (Err fault) files = Some (refused fault)
command_result (Ok (PilotsOf keys options)) files = option_map (pilots_result options) (fin.get files keys)
command_result (Ok (BuildOf keys index options)) files = option_map (build_result index options) (fin.get files keys)
command_result (Ok (QueryOf index queries)) files = over_index files index queries query_result
command_result (Ok (CheckOf index keys)) files = over_index files index keys check_result
command_result (Ok (UpgradeOf index keys)) files = over_index files index keys (upgrade_result index)
command_result (Ok (StatsOf index)) files = option_map stats_result (fin.get files index)
command_result (Ok (DemoOf count seed)) files = Some (demo_result count seed)

-- what words give over files
abbrev pub done : List (List ℕ) → FileMap → Option Done
done words files = command_result (command_of words) files

-- the new file that a command gives, where the files tell and it gives one
abbrev pub new_file : Result CommandData WordFault → Option FileMap → Option NewFileData
new_file command told = option_and_then (λ files. option_and_then (λ d. d.file) (command_result command files)) told

-- the command builds of a key file that is there, and has a key twice, or of keys that it generates
abbrev pub CommandRepeats : Result CommandData WordFault → FileMap → Type 0
CommandRepeats (Err fault) files = ⊥
CommandRepeats (Ok (PilotsOf keys options)) files = IsSomeAnd (fin.get files keys) (λ bytes. HasRepeat (keys_of bytes))
CommandRepeats (Ok (BuildOf keys index options)) files = IsSomeAnd (fin.get files keys) (λ bytes. HasRepeat (keys_of bytes))
CommandRepeats (Ok (QueryOf index queries)) files = ⊥
CommandRepeats (Ok (CheckOf index keys)) files = ⊥
CommandRepeats (Ok (UpgradeOf index keys)) files = ⊥
CommandRepeats (Ok (StatsOf index)) files = ⊥
CommandRepeats (Ok (DemoOf count seed)) files = HasRepeat (demo_keys_of count seed)

-- where the command is a build, its index is now the file of an index for the keys that the key file had
abbrev pub CommandBuilds : Result CommandData WordFault → FileMap → Option FileMap → Type 0
CommandBuilds (Err fault) files new = ⊥
CommandBuilds (Ok (PilotsOf keys options)) files new = Unit {0}
CommandBuilds (Ok (BuildOf keys index options)) files new =
    IsSomeAnd (fin.get files keys) (λ bytes. IsSomeAnd (contents new index) (IsFileFor options (keys_of bytes)))
CommandBuilds (Ok (QueryOf index queries)) files new = Unit {0}
CommandBuilds (Ok (CheckOf index keys)) files new = Unit {0}
CommandBuilds (Ok (UpgradeOf index keys)) files new = Unit {0}
CommandBuilds (Ok (StatsOf index)) files new = Unit {0}
CommandBuilds (Ok (DemoOf count seed)) files new = Unit {0}
