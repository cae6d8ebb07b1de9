-- What becomes of the files that a command names.
use Rattle.std.proofs.Common.{◌≡◌, ◌≢◌, ℕ, List, Option, Some, None}
use Rattle.std.proofs.Common.{IsSome, option_map}
use Rattle.std.proofs.Common.{inl, inr, refl, sym, ap, ◌∙◌}
use Rattle.std.specs.Prelude.{◌⊎◌}
use Rattle.command_words.specs.Names.{tmp_of}
use Rattle.pth_outside.specs.Files.{FileMap, contents}
use Rattle.pth_top.specs.declared.TheConstants.{FAILED_OUTPUT, NO_MEMORY}
use Rattle.pth_top.specs.Done.{NewFileData, with_file, with_new}
use Rattle.pth_top.specs.Ending.{IsDone, LeavesFor}
use Rattle.pth_top.specs.Finishing.{KeepsBut}
use Rattle.pth_top.proofs.Replacing.{name_is_not_tmp, with_new-name, with_new-other}

-- files without a new one are those from before
pub no_new_file : (old : Option FileMap) → old ≡ option_map (with_file None) old
no_new_file None = refl
no_new_file (Some m) = refl

-- what has the name of a file that was written, where the files tell
either_written : (file : NewFileData) (old new : Option FileMap) → new ≡ option_map (with_new file) old →
    (contents new file.name ≡ contents old file.name) ⊎ (contents new file.name ≡ Some file.bytes)
either_written file None new is = inl (ap (λ t. contents t file.name) is)
either_written file (Some m) new is = inr (ap (λ t. contents t file.name) is ∙ with_new-name file m)

-- what other names have then
others_written : (file : NewFileData) (old new : Option FileMap) → new ≡ option_map (with_new file) old →
    (other : List ℕ) → other ≢ file.name → other ≢ tmp_of file.name → contents new other ≡ contents old other
others_written file None new is other apart apart_too = ap (λ t. contents t other) is
others_written file (Some m) new is other apart apart_too =
    ap (λ t. contents t other) is ∙ with_new-other file m other apart apart_too

-- what becomes of the files where the new one was written
pub names_written : (file : Option NewFileData) (status : ℕ) (old new : Option FileMap) → new ≡ option_map (with_file file) old →
    (IsSome file → status ≢ 0 → status ≢ FAILED_OUTPUT → status ≢ NO_MEMORY → ⊥) → LeavesFor file status old new
names_written None status old new is never = is ∙ sym (no_new_file old)
names_written (Some file) status old new is never = record {
  written = λ done. is;
  kept = λ some no_failure no_want. absurd (never refl some no_failure no_want);
  either = either_written file old new is;
  others = others_written file old new is;
  silent = λ none. is ∙ ap (option_map (with_new file)) none;
}

-- what becomes of the files where it was not
pub names_kept : (file : Option NewFileData) (status : ℕ) (old new : Option FileMap) → KeepsBut file old new → (IsDone status → ⊥) →
    LeavesFor file status old new
names_kept None status old new keeps never = keeps
names_kept (Some file) status old new keeps never = record {
  written = λ done. absurd (never done);
  kept = λ some no_failure no_want. keeps.others file.name (name_is_not_tmp file.name);
  either = inl (keeps.others file.name (name_is_not_tmp file.name));
  others = λ other apart apart_too. keeps.others other apart_too;
  silent = keeps.silent;
}

-- what becomes of the files where none changed
pub names_stay : (file : Option NewFileData) (status : ℕ) (old new : Option FileMap) → new ≡ old → (IsDone status → ⊥) → LeavesFor file status old new
names_stay None status old new same never = same
names_stay (Some file) status old new same never = record {
  written = λ done. absurd (never done);
  kept = λ some no_failure no_want. ap (λ t. contents t file.name) same;
  either = inl (ap (λ t. contents t file.name) same);
  others = λ other apart apart_too. ap (λ t. contents t other) same;
  silent = λ none. same ∙ none;
}

-- files that tell nothing go on to tell nothing
pub names_silent : (file : Option NewFileData) (status : ℕ) (new : Option FileMap) → LeavesFor file status None new → new ≡ None
names_silent None status new leaves = leaves
names_silent (Some file) status new leaves = leaves.silent refl

-- a file is there only where it is not none
pub kept_file : (file : Option NewFileData) (old new : Option FileMap) → new ≡ option_map (with_file file) old → (IsSome file → ⊥) → new ≡ old
kept_file None old new is never = is ∙ sym (no_new_file old)
kept_file (Some file) old new is never = absurd (never refl)
