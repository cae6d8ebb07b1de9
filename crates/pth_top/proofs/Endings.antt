-- How commands end.
use Rattle.std.proofs.Common.{◌≡◌, ◌≢◌, ◌≤◌, ℕ, false, List, Option, Some, None, Result}
use Rattle.std.proofs.Common.{Ok, Err, IsSome, IsErr, IfSome, IfOk, IfErr, option_map}
use Rattle.std.proofs.Common.{inl, inr, ⊎_elim, refl, sym, ap, subst, ◌∙◌, arith}
use Rattle.std.specs.Prelude.{◌⊎◌, IsSomeAnd, option_and_then}
use Rattle.command_words.specs.declared.faults.WordFault.{WordFault}
use Rattle.command_words.specs.Words.{CommandData}
use Rattle.pth_outside.specs.Files.{FileMap, FilesState, LeavesFiles, ReadsFiles}
use Rattle.pth_outside.specs.FilesLaws.{ReadsFiles-leaves, ReadsFiles-none, ReadsFiles-if, LeavesFiles-ok, LeavesFiles-if, LeavesFiles-then}
use Rattle.pth_outside.specs.Sink.{SinkState, LeavesSink, written, Prints, WritesFront}
use Rattle.pth_top.specs.declared.TheConstants.{FILE_FAULT, FAILED_OUTPUT, CHECK_FAILED, NO_MEMORY, REPEATED_KEY, WORDS_REFUSED}
use Rattle.pth_top.specs.declared.answer.Answer.{Answer}
use Rattle.pth_top.specs.declared.answer.NewFile.{NewFile}
use Rattle.pth_top.specs.declared.answer.Stop.{Stop}
use Rattle.pth_top.specs.declared.answer.Stop.TheVariants.{Fault}
use Rattle.pth_top.specs.Done.{Done, NewFileData, done_of, new_file_data, with_file}
use Rattle.pth_top.specs.Ending.{EndsAs, IsCutOff, IsDone, LeavesFor, Answers, Finishes, GivesUp, Ends}
use Rattle.pth_top.specs.Finishing.{KeepsBut}
use Rattle.pth_top.specs.Statuses.{IsOfCommand, IsStatus}
use Rattle.pth_top.specs.Texts.{file_fault, no_memory}
use Rattle.pth_top.specs.Words.{refused, command_result, new_file, CommandBuilds}
use Rattle.pth_top.proofs.Leaving.{no_new_file, names_written, names_kept, names_stay, names_silent, kept_file}
use Rattle.pth_top.proofs.Repeats.{command_repeats}

-- the result of a text that was to be handed over: its status, or that of a failed output or of want of memory
abbrev IsResultOf : ℕ → ℕ → Type 0
IsResultOf status result = (result ≡ status) ⊎ ((result ≡ FAILED_OUTPUT) ⊎ (result ≡ NO_MEMORY))

-- the status of a command that was not done: want of memory, or a fault that was met
abbrev HasGivenUp : Type 0 → ℕ → Type 0
HasGivenUp fault status = (status ≡ NO_MEMORY) ⊎ ((status ≡ FILE_FAULT) × fault)

-- the statuses up to that of refused words, and that of a repeated key, are of commands
own_status : (status : ℕ) → (status ≤ WORDS_REFUSED) ⊎ (status ≡ REPEATED_KEY) → IsOfCommand status
own_status status which = record {
  no_fault = λ is. ⊎_elim (λ low. omega arith) (λ repeats. omega arith) which;
  no_failed_output = λ is. ⊎_elim (λ low. omega arith) (λ repeats. omega arith) which;
  no_want = λ is. ⊎_elim (λ low. omega arith) (λ repeats. omega arith) which;
}

-- how a text with a status was handed over
pub record IsShown (status result : ℕ) (text : List ℕ) (old new : SinkState) : Type 0 where
  pub answers : IsResultOf status result
  pub shown : result ≡ status → Prints text old new
  pub whole : result ≡ 0 → new.told ≡ written text old.told
  pub done : result ≡ FAILED_OUTPUT → status ≡ 0
  pub front : result ≡ FAILED_OUTPUT → WritesFront text old new
  pub memory : result ≡ NO_MEMORY → WritesFront no_memory old new
  pub leaves : LeavesSink old new (result ≡ FAILED_OUTPUT)

-- the result is that of the text, where it is one of neither a failed output nor want of memory
shown_same : (status result : ℕ) → IsResultOf status result → (result ≡ FAILED_OUTPUT → ⊥) → (result ≡ NO_MEMORY → ⊥) → result ≡ status
shown_same status result answers not_failed not_want =
    ⊎_elim (λ same. same) (λ rest. ⊎_elim (λ failed. absurd (not_failed failed)) (λ want. absurd (not_want want)) rest) answers

-- a status that is shown is one of a run
shown_status : (status result : ℕ) → IsResultOf status result → status ≤ CHECK_FAILED → IsStatus result
shown_status status result answers few = ⊎_elim (λ same. inl (omega arith)) (λ rest. inr rest) answers

-- a fault is never shown where the status is that of a command
shown_no_fault : (status result : ℕ) → IsResultOf status result → status ≢ FILE_FAULT → result ≢ FILE_FAULT
shown_no_fault status result answers own is =
    ⊎_elim (λ same. own (sym same ∙ is)) (λ rest. ⊎_elim (λ failed. omega arith) (λ want. omega arith) rest) answers

-- a command whose file was written, and whose text was handed over
pub finishes_shown : (d : Done) (result : ℕ) (text : List ℕ) (f f' : FilesState) (s s' : SinkState) {failed because : Type 0} →
    text ≡ d.text → IsOfCommand d.status → d.status ≤ CHECK_FAILED → (IsSome d.file → d.status ≡ 0) →
    f'.told ≡ option_map (with_file d.file) f.told → LeavesFiles f f' failed because → IsShown d.status result text s s' →
    Finishes d result f f' s s'
finishes_shown d result text f f' s s' says own few whole is leaves shown =
    let no_fault : result ≢ FILE_FAULT = shown_no_fault d.status result shown.answers own.no_fault in
    record {
      ends = λ of_command. let same : result ≡ d.status =
          shown_same d.status result shown.answers of_command.no_failed_output of_command.no_want in record {
            status_is = same;
            shown = subst (λ (t : List ℕ). Prints t s s') says (shown.shown same);
            whole = λ zero. subst (λ (t : List ℕ). s'.told ≡ written t s.told) says (shown.whole zero);
            files = is;
          };
      statuses = shown_status d.status result shown.answers few;
      leaves = LeavesFiles-ok f f' no_fault leaves;
      fault_text = λ fault. absurd (no_fault fault);
      prints = shown.leaves;
      cut_off = λ failed. record {
        well_done = shown.done failed;
        front = subst (λ (t : List ℕ). WritesFront t s s') says (shown.front failed);
        files = is;
      };
      memory = shown.memory;
      names = names_written d.file result f.told f'.told is
          (λ some no_zero no_failure no_want. no_zero (shown_same d.status result shown.answers no_failure no_want ∙ whole some));
      kept = λ no_zero no_failure no_want no_fault. kept_file d.file f.told f'.told is
          (λ some. no_zero (shown_same d.status result shown.answers no_failure no_want ∙ whole some));
    }

-- the two statuses of a command that was not done
gave_up_not_done : {fault : Type 0} (status : ℕ) → HasGivenUp fault status → IsDone status → ⊥
gave_up_not_done status statuses done =
    ⊎_elim (λ want. ⊎_elim (λ zero. omega arith) (λ failed. omega arith) done)
    (λ fault. let is : status ≡ FILE_FAULT = fault.0 in ⊎_elim (λ zero. omega arith) (λ failed. omega arith) done) statuses

-- where a command was not done, its status is of a run
gave_up_status : {fault : Type 0} (status : ℕ) → HasGivenUp fault status → IsStatus status
gave_up_status status statuses =
    ⊎_elim (λ want. inr (inr want)) (λ fault. let is : status ≡ FILE_FAULT = fault.0 in inl (omega arith)) statuses

-- a fault was met where that is the status
gave_up_fault : {fault : Type 0} (status : ℕ) → HasGivenUp fault status → status ≡ FILE_FAULT → fault
gave_up_fault status statuses is = ⊎_elim (λ want. absurd (omega arith)) (λ fault. fault.1) statuses

-- and the status is one of the two
gave_up_two : {fault : Type 0} (status : ℕ) → HasGivenUp fault status → status ≢ NO_MEMORY →
    status ≢ FILE_FAULT → ⊥
gave_up_two status statuses no_want no_fault = ⊎_elim (λ want. no_want want) (λ fault. no_fault fault.0) statuses

-- want of memory
pub gives_up_want : (fault : Type 0) (status : ℕ) (s s' : SinkState) → status ≡ NO_MEMORY → WritesFront no_memory s s' →
    LeavesSink s s' (status ≡ FAILED_OUTPUT) → GivesUp fault status s s'
gives_up_want fault status s s' want front leaves = record {
  statuses = inl want;
  fault_text = λ is. absurd (omega arith);
  prints = leaves;
  memory = λ is. front;
}

-- a fault whose text was handed over
pub gives_up_fault : (fault : Type 0) (result : ℕ) (s s' : SinkState) → fault → IsShown FILE_FAULT result file_fault s s' → GivesUp fault result s s'
gives_up_fault fault result s s' met shown = record {
  statuses = ⊎_elim (λ same. inr (same, met))
      (λ rest. ⊎_elim (λ failed. let zero : FILE_FAULT ≡ 0 = shown.done failed in absurd (omega arith)) (λ want. inl want) rest)
      shown.answers;
  fault_text = shown.shown;
  prints = shown.leaves;
  memory = shown.memory;
}

-- a command whose file was not written
pub finishes_stopped : (d : Done) (result : ℕ) (f f' : FilesState) (s s' : SinkState) {fault : Type 0} →
    KeepsBut d.file f.told f'.told → LeavesFiles f f' fault (f.told ≡ None) → GivesUp fault result s s' → Finishes d result f f' s s'
finishes_stopped d result f f' s s' keeps leaves gave_up = record {
  ends = λ of_command. absurd (gave_up_two result gave_up.statuses of_command.no_want of_command.no_fault);
  statuses = gave_up_status result gave_up.statuses;
  leaves = LeavesFiles-if f f' (gave_up_fault result gave_up.statuses) (λ none. none) leaves;
  fault_text = gave_up.fault_text;
  prints = gave_up.prints;
  cut_off = λ failed. absurd (gave_up_not_done result gave_up.statuses (inr failed));
  memory = gave_up.memory;
  names = names_kept d.file result f.told f'.told keeps (gave_up_not_done result gave_up.statuses);
  kept = λ no_zero no_failure no_want no_fault. absurd (gave_up_two result gave_up.statuses no_want no_fault);
}

-- the same from files that were only read before
pub finishes_from : (d : Done) (result : ℕ) (f g h : FilesState) (s s' : SinkState) {failed because : Type 0} →
    ReadsFiles f g failed because → Finishes d result g h s s' → Finishes d result f h s s'
finishes_from d result f g h s s' reads finishes = record {
  ends = λ of_command. subst (λ t. EndsAs d result s s' t h.told) reads.told (finishes.ends of_command);
  statuses = finishes.statuses;
  leaves = LeavesFiles-if f h (λ is. is) (λ none. sym reads.told ∙ none) (LeavesFiles-then f g h (ReadsFiles-leaves f g reads) finishes.leaves);
  fault_text = finishes.fault_text;
  prints = finishes.prints;
  cut_off = λ failed. subst (λ t. IsCutOff d s s' t h.told) reads.told (finishes.cut_off failed);
  memory = finishes.memory;
  names = subst (λ t. LeavesFor d.file result t h.told) reads.told finishes.names;
  kept = λ no_zero no_failure no_want no_fault. finishes.kept no_zero no_failure no_want no_fault ∙ reads.told;
}

-- what a command gives, and what holds of it
some_and : (told : Option FileMap) (found : FileMap → Option Done) (d : Done) (P : Done → Type 0) → IfSome told (λ m. found m ≡ Some d) → P d →
    IfSome told (λ m. IsSomeAnd (found m) P)
some_and None found d P is holds = tt
some_and (Some m) found d P is holds = subst (λ (x : Option Done). IsSomeAnd x P) (sym is) holds

-- the new file of a command is that of what it gives
names_for : (told : Option FileMap) (command : Result CommandData WordFault) (d : Done) (status : ℕ) (new : Option FileMap) →
    IfSome told (λ m. command_result command m ≡ Some d) → LeavesFor d.file status told new → LeavesFor (new_file command told) status told new
names_for None command d status new is leaves = names_silent d.file status new leaves
names_for (Some m) command d status new is leaves =
    subst (λ (x : Option NewFileData). LeavesFor x status (Some m) new) (sym (ap (option_and_then (λ (d : Done). d.file)) is)) leaves

-- files that tell nothing give no cause
of_silent : (told : Option FileMap) (found : FileMap → Option Done) → told ≡ None → IfSome told (λ m. found m ≡ None)
of_silent None found is = tt
of_silent (Some m) found is = absurd cc

-- what was done has its files
done_files : (d : Done) (status : ℕ) (f f' : FilesState) (s s' : SinkState) → Finishes d status f f' s s' → IsDone status →
    (d.status ≡ 0) × (f'.told ≡ option_map (with_file d.file) f.told)
done_files d status f f' s s' finishes done = ⊎_elim
    (λ zero. let ends : EndsAs d status s s' f.told f'.told = finishes.ends (own_status status (inl (omega arith))) in
    (sym ends.status_is ∙ zero, ends.files))
    (λ failed. let cut : IsCutOff d s s' f.told f'.told = finishes.cut_off failed in (cut.well_done, cut.files))
    done

-- a command that was done, over the files from before
pub ends_done : (command : Result CommandData WordFault) (d : Done) (status : ℕ) (f f' : FilesState) (s s' : SinkState) →
    IfSome f.told (λ m. command_result command m ≡ Some d) →
    (d.status ≡ 0 → IfSome f.told (λ m. CommandBuilds command m (option_map (with_file d.file) f.told))) →
    (d.status ≡ WORDS_REFUSED → IsErr command) → Finishes d status f f' s s' → Ends command status f f' s s'
ends_done command d status f f' s s' is builds refused finishes = record {
  done = λ of_command. some_and f.told (command_result command) d (λ d. EndsAs d status s s' f.told f'.told) is (finishes.ends of_command);
  repeated = λ four. let ends : EndsAs d status s s' f.told f'.told = finishes.ends (own_status status (inr four)) in
      command_repeats command f.told d is (sym ends.status_is ∙ four);
  built = λ done. let files : (d.status ≡ 0) × (f'.told ≡ option_map (with_file d.file) f.told) = done_files d status f f' s s' finishes done in
      subst (λ t. IfSome f.told (λ m. CommandBuilds command m t)) (sym files.1) (builds files.0);
  only_refused = λ one. let ends : EndsAs d status s s' f.told f'.told = finishes.ends (own_status status (inl (omega arith))) in
      refused (sym ends.status_is ∙ one);
  statuses = finishes.statuses;
  leaves = LeavesFiles-if f f' (λ is. is) (of_silent f.told (command_result command)) finishes.leaves;
  fault_text = finishes.fault_text;
  prints = finishes.prints;
  cut_off = λ failed. some_and f.told (command_result command) d (λ d. IsCutOff d s s' f.told f'.told) is (finishes.cut_off failed);
  memory = finishes.memory;
  kept = finishes.kept;
  names = names_for f.told command d status f'.told is finishes.names;
}

-- a command that was not done
pub ends_stopped : (command : Result CommandData WordFault) (status : ℕ) (f f' : FilesState) (s s' : SinkState) {fault : Type 0} →
    ReadsFiles f f' fault (IfSome f.told (λ m. command_result command m ≡ None)) → GivesUp fault status s s' → Ends command status f f' s s'
ends_stopped command status f f' s s' reads gave_up = record {
  done = λ of_command. absurd (gave_up_two status gave_up.statuses of_command.no_want of_command.no_fault);
  repeated = λ four. absurd (gave_up_two status gave_up.statuses (λ is. omega arith) (λ is. omega arith));
  built = λ done. absurd (gave_up_not_done status gave_up.statuses done);
  only_refused = λ one. absurd (gave_up_two status gave_up.statuses (λ is. omega arith) (λ is. omega arith));
  statuses = gave_up_status status gave_up.statuses;
  leaves = ReadsFiles-leaves f f' (ReadsFiles-if f f' (gave_up_fault status gave_up.statuses) (λ why. why) reads);
  fault_text = gave_up.fault_text;
  prints = gave_up.prints;
  cut_off = λ failed. absurd (gave_up_not_done status gave_up.statuses (inr failed));
  memory = gave_up.memory;
  kept = λ no_zero no_failure no_want no_fault. absurd (gave_up_two status gave_up.statuses no_want no_fault);
  names = names_stay (new_file command f.told) status f.told f'.told reads.told (gave_up_not_done status gave_up.statuses);
}

-- how a command ends, by its answer and by how that is finished; a command that was not done makes no further call
pub ends_command : (command : Result CommandData WordFault) (answer : Result Answer Stop) (status : ℕ) (f g h : FilesState) (s s' : SinkState) →
    Answers command answer f g → IfOk answer (λ a. Finishes (done_of a) status g h s s') →
    IfErr answer (λ stop. GivesUp (stop ≡ Fault) status s s') → (IsErr answer → h ≡ g) → Ends command status f h s s'
ends_command command (Ok a) status f g h s s' answers finishes undone no_call =
    ends_done command (done_of a) status f h s s' answers.done answers.builds (λ one. absurd (a.asked one))
    (finishes_from (done_of a) status f g h s s' answers.reads finishes)
ends_command command (Err stop) status f g h s s' answers finishes undone no_call =
    subst (λ (k : FilesState). Ends command status f k s s') (sym (no_call refl))
    (ends_stopped command status f g s s' (ReadsFiles-if f g (λ (is : stop ≡ Fault). ap Err is) (λ why. why) answers.reads) undone)

-- a command whose answer has another status than that of a repeated key doesn't end with it
pub not_repeated : (answer : Result Answer Stop) (status : ℕ) (f f' : FilesState) (s s' : SinkState) →
    IfOk answer (λ a. Finishes (done_of a) status f f' s s') → IfErr answer (λ stop. GivesUp (stop ≡ Fault) status s s') →
    IfOk answer (λ a. a.status ≢ REPEATED_KEY) → status ≢ REPEATED_KEY
not_repeated (Ok a) status f f' s s' finishes undone other four =
    let ends : EndsAs (done_of a) status s s' f.told f'.told = finishes.ends (own_status status (inr four)) in
    other (sym ends.status_is ∙ four)
not_repeated (Err stop) status f f' s s' finishes undone other four =
    gave_up_two status undone.statuses (λ is. omega arith) (λ is. omega arith)

-- words that are refused give their refusal over whatever files
pub refused_over : (fault : WordFault) (told : Option FileMap) → IfSome told (λ m. command_result (Err fault) m ≡ Some (refused fault))
refused_over fault None = tt
refused_over fault (Some m) = refl

-- no call was made
pub leaves_none : (f : FilesState) → LeavesFiles f f ⊥ ⊥
leaves_none f = ReadsFiles-leaves f f (ReadsFiles-none f (λ none. none))

-- a file is there where its data is
pub some_file : (file : Option NewFile) → IsSome (option_map new_file_data file) → IsSome file
some_file None some = some
some_file (Some file) some = refl

-- files that tell nothing
pub silent_files : FilesState
silent_files = record { told = None; faults = 0; sure = false }

-- a command on no file whose text was handed over
pub finishes_text : (a : Answer) (result : ℕ) (text : List ℕ) (f : FilesState) (s s' : SinkState) →
    text ≡ (done_of a).text → a.file ≡ None → IsShown a.status result text s s' → Finishes (done_of a) result f f s s'
finishes_text a result text f s s' says none shown =
    let d = done_of a in
    let no_new : d.file ≡ None = ap (option_map new_file_data) none in
    finishes_shown d result text f f s s' says a.own a.few (λ some. a.done (some_file a.file some))
    (subst (λ (x : Option NewFileData). f.told ≡ option_map (with_file x) f.told) (sym no_new) (no_new_file f.told)) (leaves_none f) shown
