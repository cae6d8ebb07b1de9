-- How a command ends, and what it leaves in the sink and in the files.
use Rattle.std.specs.Prelude.{◌≡◌, ◌≢◌, ◌⊎◌, ℕ, List, Option, Some, None, option_map, Result, IfOk, IfSome, IsErr, IsErrOf, IsSomeAnd}
use Rattle.command_words.specs.declared.faults.WordFault.{WordFault}
use Rattle.command_words.specs.Names.{tmp_of}
use Rattle.command_words.specs.Words.{CommandData}
use Rattle.pth_outside.specs.Files.{FileMap, FilesState, LeavesFiles, ReadsFiles, contents}
use Rattle.pth_outside.specs.Sink.{SinkState, LeavesSink, written, Prints, WritesFront}
use Rattle.pth_top.specs.declared.TheConstants.{WORDS_REFUSED, FILE_FAULT, REPEATED_KEY, FAILED_OUTPUT, NO_MEMORY}
use Rattle.pth_top.specs.declared.answer.Answer.{Answer}
use Rattle.pth_top.specs.declared.answer.Stop.{Stop}
use Rattle.pth_top.specs.declared.answer.Stop.TheVariants.{Fault}
use Rattle.pth_top.specs.Done.{Done, NewFileData, done_of, with_file}
use Rattle.pth_top.specs.Statuses.{IsOfCommand, IsStatus}
use Rattle.pth_top.specs.Texts.{file_fault, no_memory}
use Rattle.pth_top.specs.Words.{command_result, new_file, CommandRepeats, CommandBuilds}

-- a run ended with this status, text and file: a sink that failed may lack the end of the text, but with status 0 nothing lacks
pub record EndsAs (done : Done) (status : ℕ) (sink_old sink_new : SinkState) (old new : Option FileMap) : Type 0 where
  pub status_is : status ≡ done.status
  pub shown : Prints done.text sink_old sink_new
  pub whole : status ≡ 0 → sink_new.told ≡ written done.text sink_old.told
  pub files : new ≡ option_map (with_file done.file) old

-- a command was done with status 0, but the sink failed: a front of the text is there, and the files are those of the command
pub record IsCutOff (done : Done) (sink_old sink_new : SinkState) (old new : Option FileMap) : Type 0 where
  pub well_done : done.status ≡ 0
  pub front : WritesFront done.text sink_old sink_new
  pub files : new ≡ option_map (with_file done.file) old

-- the command was done, whether or not its output failed
abbrev pub IsDone : ℕ → Type 0
IsDone status = (status ≡ 0) ⊎ (status ≡ FAILED_OUTPUT)

-- no file but one changes, and files that tell nothing go on to tell nothing
pub record ChangesOnly (name : List ℕ) (old new : Option FileMap) : Type 0 where
  pub others : (other : List ℕ) → other ≢ name → contents new other ≡ contents old other
  pub silent : old ≡ None → new ≡ None

-- what becomes of the files where a command gives a new one: it is there, and nothing at the name that it was written under,
-- where the command was done; else what had its name is as before, but after want of memory it may be there; all others stay
pub record LeavesNames (file : NewFileData) (status : ℕ) (old new : Option FileMap) : Type 0 where
  pub written : IsDone status → new ≡ option_map (with_file (Some file)) old
  pub kept : status ≢ 0 → status ≢ FAILED_OUTPUT → status ≢ NO_MEMORY → contents new file.name ≡ contents old file.name
  pub either : (contents new file.name ≡ contents old file.name) ⊎ (contents new file.name ≡ Some file.bytes)
  pub others : (other : List ℕ) → other ≢ file.name → other ≢ tmp_of file.name → contents new other ≡ contents old other
  pub silent : old ≡ None → new ≡ None

-- what becomes of the files: they stay where no new one is given
abbrev pub LeavesFor : Option NewFileData → ℕ → Option FileMap → Option FileMap → Type 0
LeavesFor None status old new = new ≡ old
LeavesFor (Some file) status old new = LeavesNames file status old new

-- what a command answers over files that it only reads
pub record Answers (command : Result CommandData WordFault) (answer : Result Answer Stop) (old new : FilesState) : Type 0 where
  pub done : IfOk answer (λ a. IfSome old.told (λ m. command_result command m ≡ Some (done_of a)))
  pub builds : IfOk answer (λ a. a.status ≡ 0 → IfSome old.told (λ m.
      CommandBuilds command m (option_map (with_file (done_of a).file) old.told)))
  pub reads : ReadsFiles old new (IsErrOf answer Fault) (IfSome old.told (λ m. command_result command m ≡ None))

-- how a command that gave this ends
pub record Finishes (d : Done) (status : ℕ) (files files' : FilesState) (sink sink' : SinkState) : Type 0 where
  pub ends : IsOfCommand status → EndsAs d status sink sink' files.told files'.told
  pub statuses : IsStatus status
  pub leaves : LeavesFiles files files' (status ≡ FILE_FAULT) (files.told ≡ None)
  pub fault_text : status ≡ FILE_FAULT → Prints file_fault sink sink'
  pub prints : LeavesSink sink sink' (status ≡ FAILED_OUTPUT)
  pub cut_off : status ≡ FAILED_OUTPUT → IsCutOff d sink sink' files.told files'.told
  pub memory : status ≡ NO_MEMORY → WritesFront no_memory sink sink'
  pub names : LeavesFor d.file status files.told files'.told
  pub kept : status ≢ 0 → status ≢ FAILED_OUTPUT → status ≢ NO_MEMORY → status ≢ FILE_FAULT → files'.told ≡ files.told

-- how a command that was not done ends: by want of memory, or by a fault where it met one
pub record GivesUp (fault : Type 0) (status : ℕ) (sink sink' : SinkState) : Type 0 where
  pub statuses : (status ≡ NO_MEMORY) ⊎ ((status ≡ FILE_FAULT) × fault)
  pub fault_text : status ≡ FILE_FAULT → Prints file_fault sink sink'
  pub prints : LeavesSink sink sink' (status ≡ FAILED_OUTPUT)
  pub memory : status ≡ NO_MEMORY → WritesFront no_memory sink sink'

-- how a command ends, over whatever files and sink
pub record Ends (command : Result CommandData WordFault) (status : ℕ) (files files' : FilesState) (sink sink' : SinkState) : Type 0 where
  pub done : IsOfCommand status → IfSome files.told (λ m. IsSomeAnd (command_result command m) (λ d.
      EndsAs d status sink sink' files.told files'.told))
  pub repeated : status ≡ REPEATED_KEY → IfSome files.told (CommandRepeats command)
  pub built : IsDone status → IfSome files.told (λ m. CommandBuilds command m files'.told)
  pub only_refused : status ≡ WORDS_REFUSED → IsErr command
  pub statuses : IsStatus status
  pub leaves : LeavesFiles files files' (status ≡ FILE_FAULT) (IfSome files.told (λ m. command_result command m ≡ None))
  pub fault_text : status ≡ FILE_FAULT → Prints file_fault sink sink'
  pub prints : LeavesSink sink sink' (status ≡ FAILED_OUTPUT)
  pub cut_off : status ≡ FAILED_OUTPUT → IfSome files.told (λ m. IsSomeAnd (command_result command m) (λ d.
      IsCutOff d sink sink' files.told files'.told))
  pub memory : status ≡ NO_MEMORY → WritesFront no_memory sink sink'
  pub kept : status ≢ 0 → status ≢ FAILED_OUTPUT → status ≢ NO_MEMORY → status ≢ FILE_FAULT → files'.told ≡ files.told
  pub names : LeavesFor (new_file command files.told) status files.told files'.told
