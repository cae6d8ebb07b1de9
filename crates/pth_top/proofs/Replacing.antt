-- A file that is written under another name and put in its place.
use Rattle.std.proofs.Common.{◌≡◌, ◌≢◌, ℕ, ◌+◌, ◌-◌, List, [], ◌++◌, length, take, drop}
use Rattle.std.proofs.Common.{slice_range, Option, Some, None, Result, Ok, Err, OnErr, option_map, IsErrOf}
use Rattle.std.proofs.Common.{refl, sym, ap, ◌∙◌, length-append, arith}
use Rattle.std.proofs.Math.Seq.{take-add}
use Rattle.std.proofs.lemmas.List.{append_assoc}
use Rattle.std.specs.Prelude.{codes}
use Rattle.std.specs.FinMap as map
use Rattle.command_words.specs.Names.{tmp_of}
use Rattle.pth_outside.specs.declared.files.FileErr.{FileErr}
use Rattle.pth_outside.specs.declared.files.FileErr.TheVariants.{Failed, NoMemory}
use Rattle.pth_outside.specs.Files.{FileMap, put_at, contents, created, appended, published, AppendsFront}
use Rattle.pth_outside.proofs.AtNamesLemmas.{get_put, get_put_other, put_put, put_swap, put_same}
use Rattle.pth_top.specs.Done.{NewFileData, with_new}
use Rattle.pth_top.specs.Ending.{ChangesOnly}
use Rattle.pth_top.proofs.Writes.{written-nothing}

-- the name that a file is written under is another
pub name_is_not_tmp : (name : List ℕ) → name ≢ tmp_of name
name_is_not_tmp name is =
    let longer : length (tmp_of name) ≡ length name + 4 = length-append name (codes ".tmp") in
    let same : length name ≡ length (tmp_of name) = ap length is in
    absurd (omega (arith, longer, same))

-- nothing appended
pub appended-nothing : (name : List ℕ) (told : Option FileMap) → told ≡ option_map (appended name []) told
appended-nothing name None = refl
appended-nothing name (Some m) =
    ap Some (sym (put_same m name (option_map (λ bytes. bytes ++ []) (map.get m name)) (written-nothing (map.get m name))))

-- two pieces behind what a name may stand for
two_pieces : (front back : List ℕ) (x : Option (List ℕ)) →
    option_map (λ bytes. bytes ++ back) (option_map (λ bytes. bytes ++ front) x) ≡ option_map (λ bytes. bytes ++ (front ++ back)) x
two_pieces front back None = refl
two_pieces front back (Some bytes) = ap Some (append_assoc bytes front back)

-- two pieces appended to a map
appended_twice : (name front back : List ℕ) (m : FileMap) → appended name back (appended name front m) ≡ appended name (front ++ back) m
appended_twice name front back m =
    let x : Option (List ℕ) = option_map (λ bytes. bytes ++ front) (map.get m name) in
    ap (λ (y : Option (List ℕ)). put_at (put_at m name x) name (option_map (λ bytes. bytes ++ back) y)) (get_put m name x)
    ∙ put_put m name x (option_map (λ bytes. bytes ++ back) x)
    ∙ ap (put_at m name) (two_pieces front back (map.get m name))

-- two pieces, one after the other, are appended like one
pub appended-more : (name front back whole : List ℕ) (old now new : Option FileMap) → now ≡ option_map (appended name front) old →
    new ≡ option_map (appended name back) now → whole ≡ front ++ back → new ≡ option_map (appended name whole) old
appended-more name front back whole None now new first second is = second ∙ ap (option_map (appended name back)) first
appended-more name front back whole (Some m) now new first second is =
    second
    ∙ ap (option_map (appended name back)) first
    ∙ ap Some (appended_twice name front back m)
    ∙ ap (λ (bytes : List ℕ). Some (appended name bytes m)) (sym is)

-- what is behind no name is behind none
none_of : (piece : List ℕ) (x : Option (List ℕ)) → option_map (λ bytes. bytes ++ piece) x ≡ None → x ≡ None
none_of piece None is = refl
none_of piece (Some bytes) is = absurd cc

-- where a file is not there with something appended, it was not there before
pub appended-missing : (name piece : List ℕ) (old now : Option FileMap) → now ≡ option_map (appended name piece) old →
    contents now name ≡ None → contents old name ≡ None
appended-missing name piece None now is none = refl
appended-missing name piece (Some m) now is none =
    none_of piece (map.get m name)
    (sym (get_put m name (option_map (λ bytes. bytes ++ piece) (map.get m name))) ∙ sym (ap (λ t. contents t name) is) ∙ none)

-- no file changes
pub changes-none : (name : List ℕ) (old new : Option FileMap) → new ≡ old → ChangesOnly name old new
changes-none name old new same = record {
  others = λ other apart. ap (λ t. contents t other) same;
  silent = λ none. same ∙ none;
}

-- one name changes
changes_put : (name : List ℕ) (x : FileMap → Option (List ℕ)) (old new : Option FileMap) →
    new ≡ option_map (λ m. put_at m name (x m)) old → ChangesOnly name old new
changes_put name x None new is = record { others = λ other apart. ap (λ t. contents t other) is; silent = λ none. is }
changes_put name x (Some m) new is = record {
  others = λ other apart. ap (λ t. contents t other) is ∙ get_put_other m name (x m) other apart;
  silent = λ none. absurd cc;
}

-- a name is created
pub changes-created : (name : List ℕ) (old new : Option FileMap) → new ≡ option_map (created name) old → ChangesOnly name old new
changes-created name old new is = changes_put name (λ m. Some []) old new is

-- something is appended to a name
pub changes-appended : (name piece : List ℕ) (old new : Option FileMap) → new ≡ option_map (appended name piece) old → ChangesOnly name old new
changes-appended name piece old new is = changes_put name (λ m. option_map (λ bytes. bytes ++ piece) (map.get m name)) old new is

-- first one change, then another
pub changes-then : (name : List ℕ) (old now new : Option FileMap) → ChangesOnly name old now → ChangesOnly name now new → ChangesOnly name old new
changes-then name old now new first second = record {
  others = λ other apart. second.others other apart ∙ first.others other apart;
  silent = λ none. second.silent (first.silent none);
}

-- a piece that was not appended whole
pub changes-by_error : (name piece : List ℕ) (old new : Option FileMap) (e : FileErr) →
    (IsErrOf {T = Unit {0}} (Err e) Failed → AppendsFront name piece old new) →
    (IsErrOf {T = Unit {0}} (Err e) NoMemory → new ≡ old) → ChangesOnly name old new
changes-by_error name piece old new Failed front kept = changes-appended name (take (front refl).0 piece) old new (front refl).1
changes-by_error name piece old new NoMemory front kept = changes-none name old new (kept refl)

-- a file that was created and appended to
written_map : (tmp bytes : List ℕ) (m : FileMap) → appended tmp bytes (created tmp m) ≡ put_at m tmp (Some bytes)
written_map tmp bytes m =
    ap (λ (y : Option (List ℕ)). put_at (put_at m tmp (Some [])) tmp (option_map (λ start. start ++ bytes) y)) (get_put m tmp (Some []))
    ∙ put_put m tmp (Some []) (Some bytes)

-- a file that was published
published_map : (tmp name bytes : List ℕ) (m : FileMap) → tmp ≢ name →
    published tmp name (put_at m tmp (Some bytes)) ≡ put_at (put_at m name (Some bytes)) tmp None
published_map tmp name bytes m apart =
    ap (λ (y : Option (List ℕ)). put_at (put_at (put_at m tmp (Some bytes)) name y) tmp None) (get_put m tmp (Some bytes))
    ∙ ap (λ (n : FileMap). put_at n tmp None) (put_swap m tmp name (Some bytes) (Some bytes) apart)
    ∙ put_put (put_at m name (Some bytes)) tmp (Some bytes) None

-- a new file was created under another name, written and put in its place
pub replaced : (file : NewFileData) (tmp : List ℕ) (old one two new : Option FileMap) → tmp ≡ tmp_of file.name →
    one ≡ option_map (created tmp) old → two ≡ option_map (appended tmp file.bytes) one → new ≡ option_map (published tmp file.name) two →
    new ≡ option_map (with_new file) old
replaced file tmp None one two new is first second third =
    third ∙ ap (option_map (published tmp file.name)) (second ∙ ap (option_map (appended tmp file.bytes)) first)
replaced file tmp (Some m) one two new is first second third =
    third
    ∙ ap (option_map (published tmp file.name)) (second ∙ ap (option_map (appended tmp file.bytes)) first)
    ∙ ap (λ (n : FileMap). Some (published tmp file.name n)) (written_map tmp file.bytes m)
    ∙ ap Some (published_map tmp file.name file.bytes m (λ same. name_is_not_tmp file.name (sym same ∙ is)))
    ∙ ap (λ (t : List ℕ). Some (put_at (put_at m file.name (Some file.bytes)) t None)) is

-- a file that was created is there, where the files tell
pub created-there : (tmp : List ℕ) (old one : Option FileMap) → one ≡ option_map (created tmp) old → contents one tmp ≡ None → old ≡ None
created-there tmp None one is none = refl
created-there tmp (Some m) one is none =
    let there : contents one tmp ≡ Some [] = ap (λ t. contents t tmp) is ∙ get_put m tmp (Some []) in absurd cc

-- what the new file has, once it is in its place
pub with_new-name : (file : NewFileData) (m : FileMap) → map.get (with_new file m) file.name ≡ Some file.bytes
with_new-name file m =
    get_put_other (put_at m file.name (Some file.bytes)) (tmp_of file.name) None file.name (name_is_not_tmp file.name)
    ∙ get_put m file.name (Some file.bytes)

-- what other names have
pub with_new-other : (file : NewFileData) (m : FileMap) (other : List ℕ) → other ≢ file.name → other ≢ tmp_of file.name →
    map.get (with_new file m) other ≡ map.get m other
with_new-other file m other apart apart_too =
    get_put_other (put_at m file.name (Some file.bytes)) (tmp_of file.name) None other apart_too
    ∙ get_put_other m file.name (Some file.bytes) other apart

-- the next piece stands behind those before it
pub next_piece : (bytes : List ℕ) (at count : ℕ) → take (at + count) bytes ≡ take at bytes ++ slice_range bytes at (at + count)
next_piece bytes at count =
    let room : count ≡ at + count - at = omega arith in
    take-add at count bytes ∙ ap (λ (k : ℕ). take at bytes ++ take k (drop at bytes)) room

-- what holds, holds of any error
pub on_err : {T E : Type 0} → (r : Result T E) (P : Type 0) → P → OnErr r P
on_err (Ok x) P holds = tt
on_err (Err e) P holds = holds
