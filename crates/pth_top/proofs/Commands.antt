-- What the answers of commands promise, each as one record.
use Rattle.std.proofs.Common.{◌≡◌, ℕ, List, Option, Some, None, Result, Ok, Err, IfSome, IfOk, IsErrOf, option_map, refl, sym, ap, ◌∙◌, subst}
use Rattle.std.specs.Prelude.{IsSomeAnd, option_and_then}
use Rattle.std.specs.FinMap as map
use Rattle.build_outcome.specs.Index.{IndexData}
use Rattle.command_words.specs.Options.{OptionsData}
use Rattle.command_words.specs.Words.{PilotsOf, BuildOf, QueryOf, CheckOf, StatsOf, UpgradeOf, DemoOf}
use Rattle.index_file.specs.Encoded.{EncodedIndex}
use Rattle.index_text.specs.Text.{index_text, IsIndex}
use Rattle.pth_outside.specs.Files.{FileMap, FilesState, ReadsFiles, OfFile, contents}
use Rattle.pth_outside.specs.FilesLaws.{ReadsFiles-if, ReadsFiles-none}
use Rattle.pth_outside.specs.Keys.{keys_of}
use Rattle.pth_top.specs.declared.answer.Answer.{Answer}
use Rattle.pth_top.specs.declared.answer.Stop.{Stop}
use Rattle.pth_top.specs.declared.answer.Stop.TheVariants.{Fault}
use Rattle.pth_top.specs.Build.{build_result, index_file_of, IsFileFor, IsIndexFile}
use Rattle.pth_top.specs.Demo.{demo_result}
use Rattle.pth_top.specs.Done.{Done, NewFileData, done_of, with_file, with_new}
use Rattle.pth_top.specs.Ending.{Answers}
use Rattle.pth_top.specs.Lists.{IsIndexFor}
use Rattle.pth_top.specs.Pilots.{pilots_result}
use Rattle.pth_top.specs.Query.{index_read}
use Rattle.pth_top.specs.Stats.{stats_result}
use Rattle.pth_top.specs.Words.{command_result, over_index, with_index}
use Rattle.pth_top.proofs.Listed.{over_file, over_none}
use Rattle.pth_top.proofs.Replacing.{with_new-name}

-- what follows of each answer
pub each_ok : (answer : Result Answer Stop) (P Q : Answer → Type 0) → ((a : Answer) → P a → Q a) → IfOk answer P → IfOk answer Q
each_ok (Ok a) P Q follows holds = follows a holds
each_ok (Err stop) P Q follows holds = tt

-- nothing is claimed of the files
nothing : (told : Option FileMap) → IfSome told (λ m. Unit {0})
nothing None = tt
nothing (Some m) = tt

-- nor of each answer
nothing_built : (answer : Result Answer Stop) (told : Option FileMap) → IfOk answer (λ a. a.status ≡ 0 → IfSome told (λ m. Unit {0}))
nothing_built (Ok a) told = λ zero. nothing told
nothing_built (Err stop) told = tt

-- the answer of `pilots`
pub answers_pilots : (keys : List ℕ) (o : OptionsData) (answer : Result Answer Stop) (old new : FilesState) →
    IfOk answer (λ a. OfFile old.told keys (λ bytes. pilots_result o bytes ≡ done_of a)) →
    ReadsFiles old new (IsErrOf answer Fault) (contents old.told keys ≡ None) → Answers (Ok (PilotsOf keys o)) answer old new
answers_pilots keys o answer old new done reads = record {
  done = each_ok answer (λ a. OfFile old.told keys (λ bytes. pilots_result o bytes ≡ done_of a))
      (λ a. IfSome old.told (λ m. command_result (Ok (PilotsOf keys o)) m ≡ Some (done_of a)))
      (λ a of. over_file old.told keys (pilots_result o) (done_of a) of) done;
  builds = nothing_built answer old.told;
  reads = ReadsFiles-if old new (λ is. is) (over_none old.told keys (pilots_result o)) reads;
}

-- the file of an index, once it is in its place
placed : (index : List ℕ) (o : OptionsData) (keys : List (List ℕ)) (file : Option NewFileData) (m : FileMap) →
    IsSomeAnd file (IsIndexFile index o keys) → IsSomeAnd (contents (option_map (with_file file) (Some m)) index) (IsFileFor o keys)
placed index o keys None m is = absurd is
placed index o keys (Some file) m is =
    let there : map.get (with_new file m) index ≡ Some file.bytes = ap (map.get (with_new file m)) (sym is.named) ∙ with_new-name file m in
    subst (λ x. IsSomeAnd x (IsFileFor o keys)) (sym there) is.for_keys

-- the same over files that tell
placed_in : (keys index : List ℕ) (o : OptionsData) (file : Option NewFileData) (told : Option FileMap) →
    OfFile told keys (λ bytes. IsSomeAnd file (IsIndexFile index o (keys_of bytes))) →
    IfSome told (λ m. IsSomeAnd (map.get m keys) (λ bytes.
    IsSomeAnd (contents (option_map (with_file file) told) index) (IsFileFor o (keys_of bytes))))
placed_in keys index o file None of = tt
placed_in keys index o file (Some m) of = found (map.get m keys) (of refl)
  where
    found : (x : Option (List ℕ)) → IsSomeAnd x (λ bytes. IsSomeAnd file (IsIndexFile index o (keys_of bytes))) →
        IsSomeAnd x (λ bytes. IsSomeAnd (contents (option_map (with_file file) (Some m)) index) (IsFileFor o (keys_of bytes)))
    found None is = absurd is
    found (Some bytes) is = placed index o (keys_of bytes) file m is

-- the answer of `build`
pub answers_build : (keys index : List ℕ) (o : OptionsData) (answer : Result Answer Stop) (old new : FilesState) →
    IfOk answer (λ a. OfFile old.told keys (λ bytes. build_result index o bytes ≡ done_of a)) →
    IfOk answer (λ a. a.status ≡ 0 → OfFile old.told keys (λ bytes. IsSomeAnd (done_of a).file (IsIndexFile index o (keys_of bytes)))) →
    ReadsFiles old new (IsErrOf answer Fault) (contents old.told keys ≡ None) → Answers (Ok (BuildOf keys index o)) answer old new
answers_build keys index o answer old new done built reads = record {
  done = each_ok answer (λ a. OfFile old.told keys (λ bytes. build_result index o bytes ≡ done_of a))
      (λ a. IfSome old.told (λ m. command_result (Ok (BuildOf keys index o)) m ≡ Some (done_of a)))
      (λ a of. over_file old.told keys (build_result index o) (done_of a) of) done;
  builds = each_ok answer (λ a. a.status ≡ 0 → OfFile old.told keys (λ bytes. IsSomeAnd (done_of a).file (IsIndexFile index o (keys_of bytes))))
      (λ a. a.status ≡ 0 → IfSome old.told (λ m. IsSomeAnd (map.get m keys) (λ bytes.
      IsSomeAnd (contents (option_map (with_file (done_of a).file) old.told) index) (IsFileFor o (keys_of bytes)))))
      (λ a of zero. placed_in keys index o (done_of a).file old.told (of zero)) built;
  reads = ReadsFiles-if old new (λ is. is) (over_none old.told keys (build_result index o)) reads;
}

-- the answer of `query`
pub answers_query : (index queries : List ℕ) (answer : Result Answer Stop) (old new : FilesState) →
    IfOk answer (λ a. IfSome old.told (λ m. command_result (Ok (QueryOf index queries)) m ≡ Some (done_of a))) →
    ReadsFiles old new (IsErrOf answer Fault) (IfSome old.told (λ m. command_result (Ok (QueryOf index queries)) m ≡ None)) →
    Answers (Ok (QueryOf index queries)) answer old new
answers_query index queries answer old new done reads = record { done = done; builds = nothing_built answer old.told; reads = reads }

-- the answer of `check`
pub answers_check : (index keys : List ℕ) (answer : Result Answer Stop) (old new : FilesState) →
    IfOk answer (λ a. IfSome old.told (λ m. command_result (Ok (CheckOf index keys)) m ≡ Some (done_of a))) →
    ReadsFiles old new (IsErrOf answer Fault) (IfSome old.told (λ m. command_result (Ok (CheckOf index keys)) m ≡ None)) →
    Answers (Ok (CheckOf index keys)) answer old new
answers_check index keys answer old new done reads = record { done = done; builds = nothing_built answer old.told; reads = reads }

-- the answer of `upgrade`
pub answers_upgrade : (index keys : List ℕ) (answer : Result Answer Stop) (old new : FilesState) →
    IfOk answer (λ a. IfSome old.told (λ m. command_result (Ok (UpgradeOf index keys)) m ≡ Some (done_of a))) →
    ReadsFiles old new (IsErrOf answer Fault) (IfSome old.told (λ m. command_result (Ok (UpgradeOf index keys)) m ≡ None)) →
    Answers (Ok (UpgradeOf index keys)) answer old new
answers_upgrade index keys answer old new done reads = record { done = done; builds = nothing_built answer old.told; reads = reads }

-- the answer of `stats`
pub answers_stats : (index : List ℕ) (answer : Result Answer Stop) (old new : FilesState) →
    IfOk answer (λ a. OfFile old.told index (λ bytes. stats_result bytes ≡ done_of a)) →
    ReadsFiles old new (IsErrOf answer Fault) (contents old.told index ≡ None) → Answers (Ok (StatsOf index)) answer old new
answers_stats index answer old new done reads = record {
  done = each_ok answer (λ a. OfFile old.told index (λ bytes. stats_result bytes ≡ done_of a))
      (λ a. IfSome old.told (λ m. command_result (Ok (StatsOf index)) m ≡ Some (done_of a)))
      (λ a of. over_file old.told index stats_result (done_of a) of) done;
  builds = nothing_built answer old.told;
  reads = ReadsFiles-if old new (λ is. is) (over_none old.told index stats_result) reads;
}

-- what is said whatever the files tell
over_any : (told : Option FileMap) (given : Option Done) (d : Option Done) → given ≡ d → IfSome told (λ m. given ≡ d)
over_any None given d is = tt
over_any (Some m) given d is = is

-- the answer of `demo`, which has no call on files
pub answers_demo : (count seed : ℕ) (answer : Result Answer Stop) (files : FilesState) →
    IfOk answer (λ a. demo_result count seed ≡ done_of a) → (IsErrOf answer Fault → ⊥) → Answers (Ok (DemoOf count seed)) answer files files
answers_demo count seed answer files done no_fault = record {
  done = each_ok answer (λ a. demo_result count seed ≡ done_of a)
      (λ a. IfSome files.told (λ m. command_result (Ok (DemoOf count seed)) m ≡ Some (done_of a)))
      (λ a is. over_any files.told (Some (demo_result count seed)) (Some (done_of a)) (ap Some is)) done;
  builds = nothing_built answer files.told;
  reads = ReadsFiles-none files no_fault;
}

-- the file of an index that was built
pub file_of_built : (name : List ℕ) (o : OptionsData) (keys : List (List ℕ)) (x : IndexData) (d : Done) → d ≡ index_file_of name o.enc x →
    IsIndexFor o keys x → IsIndex (index_text x o.enc) x o.enc → IsSomeAnd d.file (IsIndexFile name o keys)
file_of_built name o keys x d is built text =
    subst (λ (d : Done). IsSomeAnd d.file (IsIndexFile name o keys)) (sym is)
    (record { named = refl; for_keys = record { index = x; built = built; text = text } })

-- what comes after an index that is read
after_index : (index second : Option (List ℕ)) (give : EncodedIndex → List ℕ → Done) (x : EncodedIndex) (d : Option Done) →
    IsSomeAnd index (λ bytes. index_read bytes ≡ Ok x) → option_map (give x) second ≡ d →
    option_and_then (λ bytes. with_index (index_read bytes) (λ x. option_map (give x) second)) index ≡ d
after_index None second give x d is gives = absurd is
after_index (Some bytes) second give x d is gives = ap (λ r. with_index r (λ x. option_map (give x) second)) is ∙ gives

-- what an index that is read and a second file give
pub over_found : (told : Option FileMap) (index second : List ℕ) (give : EncodedIndex → List ℕ → Done) (x : EncodedIndex) (d : Done) →
    OfFile told index (λ bytes. index_read bytes ≡ Ok x) → OfFile told second (λ bytes. give x bytes ≡ d) →
    IfSome told (λ m. over_index m index second give ≡ Some d)
over_found None index second give x d is gives = tt
over_found (Some m) index second give x d is gives =
    after_index (map.get m index) (map.get m second) give x (Some d) (is refl) (over_file (Some m) second (give x) d gives)

-- no second file for an index that is read
pub over_missing : (told : Option FileMap) (index second : List ℕ) (give : EncodedIndex → List ℕ → Done) (x : EncodedIndex) →
    OfFile told index (λ bytes. index_read bytes ≡ Ok x) → contents told second ≡ None →
    IfSome told (λ m. over_index m index second give ≡ None)
over_missing None index second give x is none = tt
over_missing (Some m) index second give x is none =
    after_index (map.get m index) (map.get m second) give x None (is refl) (over_none (Some m) second (give x) none)

-- an index that is refused
pub over_refused : (told : Option FileMap) (index second : List ℕ) (give : EncodedIndex → List ℕ → Done) (d : Done) →
    OfFile told index (λ bytes. index_read bytes ≡ Err d) → IfSome told (λ m. over_index m index second give ≡ Some d)
over_refused None index second give d is = tt
over_refused (Some m) index second give d is = found (map.get m index) (is refl)
  where
    found : (x : Option (List ℕ)) → IsSomeAnd x (λ bytes. index_read bytes ≡ Err d) →
        option_and_then (λ bytes. with_index (index_read bytes) (λ x. option_map (give x) (map.get m second))) x ≡ Some d
    found None is = absurd is
    found (Some bytes) is = ap (λ r. with_index r (λ x. option_map (give x) (map.get m second))) is

-- no index
pub over_nothing : (told : Option FileMap) (index second : List ℕ) (give : EncodedIndex → List ℕ → Done) → contents told index ≡ None →
    IfSome told (λ m. over_index m index second give ≡ None)
over_nothing None index second give none = tt
over_nothing (Some m) index second give none =
    ap (option_and_then (λ bytes. with_index (index_read bytes) (λ x. option_map (give x) (map.get m second)))) none
