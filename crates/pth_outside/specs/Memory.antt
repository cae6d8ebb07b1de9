-- What files in memory hold, which of their calls fail, and how a call on them ends.
use Rattle.std.specs.Prelude.{◌≡◌, ℕ, ◌-◌, ◌/◌, ◌==◌, ◌⊎◌, Bool, IsTrue, List, [], length, take, Option, Some, None}
use Rattle.std.specs.Prelude.{unwrap_or, refl, Result, IsErrOf, OnOk}
use Rattle.std.specs.List.{list_any}
use Rattle.std.specs.Coded.{Coded, code_by, coded×, coded_ℕ, coded_list}
use base.Stored.{coded_unit}
use Rattle.std.specs.FinMap as map
use Rattle.pth_outside.specs.declared.files.FileErr.{FileErr}
use Rattle.pth_outside.specs.declared.files.FileErr.TheVariants.{Failed, NoMemory}
use Rattle.pth_outside.specs.Files.{AtNames, FileMap, put_at, created, appended, published, removed, one_more}

-- the files, the names that were created, the numbers of the calls that fail, the most that a read gives, and both counts
pub record Memory : Type 0 where
  pub files : FileMap
  pub created : AtNames (Unit {0})
  pub fails : List ℕ
  pub most : ℕ
  pub calls : ℕ
  pub faults : ℕ

-- it is stored as the pair of its fields
abbrev pub memory_code : Coded Memory
memory_code = code_by (FileMap × (AtNames (Unit {0}) × (List ℕ × (ℕ × (ℕ × ℕ)))))
    (coded× (map.code (coded_list coded_ℕ) (coded_list coded_ℕ)) (coded× (map.code (coded_list coded_ℕ) coded_unit)
    (coded× (coded_list coded_ℕ) (coded× coded_ℕ (coded× coded_ℕ coded_ℕ)))))
    (λ m. (m.files, (m.created, (m.fails, (m.most, (m.calls, m.faults))))))
    (λ p. record { files = p.0; created = p.1.0; fails = p.1.1.0; most = p.1.1.1.0; calls = p.1.1.1.1.0; faults = p.1.1.1.1.1 })
    (λ _. refl)

-- the number of the call that comes next is listed, so it fails
abbrev pub is_listed : Memory → Bool
is_listed m = list_any (λ number. number == m.calls) m.fails

-- after a call more
abbrev pub counted : Memory → Memory
counted m = record m { calls = one_more m.calls }

-- after a call more that failed
abbrev pub faulted : Memory → Memory
faulted m = record m { calls = one_more m.calls; faults = one_more m.faults }

-- with other files
abbrev pub with_files : FileMap → Memory → Memory
with_files files m = record m { files = files }

-- with this name marked as created
abbrev pub with_mark : List ℕ → Memory → Memory
with_mark name m = record m { created = put_at m.created name (Some tt) }

-- after `create`
abbrev pub after_create : List ℕ → Memory → Memory
after_create name m = with_files (created name m.files) (with_mark name (counted m))

-- after `append`
abbrev pub after_append : List ℕ → List ℕ → Memory → Memory
after_append name piece m = with_files (appended name piece m.files) (counted m)

-- after `append` that failed, with the first half of its piece
abbrev pub after_half : List ℕ → List ℕ → Memory → Memory
after_half name piece m = with_files (appended name (take (length piece / 2) piece) m.files) (faulted m)

-- after `publish`
abbrev pub after_publish : List ℕ → List ℕ → Memory → Memory
after_publish from to m = with_files (published from to m.files) (counted m)

-- after `remove`
abbrev pub after_remove : List ℕ → Memory → Memory
after_remove name m = with_files (removed name m.files) (counted m)

-- how many bytes a file has from a place on
abbrev pub left_from : ℕ → Option (List ℕ) → ℕ
left_from at bytes = length (unwrap_or bytes []) - at

-- the call that comes next must fail: its number is listed, or this file is missing
abbrev pub MustFail : Memory → List ℕ → Type 0
MustFail m name = IsTrue (is_listed m) ⊎ (map.get m.files name ≡ None)

-- how a call on files ends: Failed only where it must fail, and what stands after each answer
pub record Ends {T : Type 0} (must_fail : Type 0) (old done undone new : Memory) (result : Result T FileErr) : Type 0 where
  pub ok : OnOk result (new ≡ done)
  pub ok_only : OnOk result (¬ must_fail)
  pub failed : IsErrOf result Failed → new ≡ undone
  pub failed_only : IsErrOf result Failed → must_fail
  pub no_memory : IsErrOf result NoMemory → new ≡ counted old
