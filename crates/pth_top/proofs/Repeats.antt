-- A list that is refused for a repeated key has one.
use Rattle.std.proofs.Common.{◌≡◌, ◌≢◌, ℕ, true, false, cond, List, [], ◌∷◌, length, take, Option}
use Rattle.std.proofs.Common.{Some, None, Result, Ok, Err, IfSome, option_map, refl, ap, ◌∙◌, arith}
use Rattle.std.specs.Prelude.{IsSomeAnd, nat_lt, codes, option_and_then}
use Rattle.std.specs.FinMap as map
use Rattle.build_outcome.specs.BuiltLaws.{AreDistinctKeys}
use Rattle.build_outcome.specs.Index.{KeyMarkData, IndexData}
use Rattle.build_outcome.specs.Outcome.{Outcome, repeated, exhausted, built, outcome_of}
use Rattle.build_outcome.specs.OutcomeLaws.{repeated_key}
use Rattle.command_words.specs.declared.faults.WordFault.{WordFault}
use Rattle.command_words.specs.Options.{OptionsData}
use Rattle.command_words.specs.Words.{CommandData, PilotsOf, BuildOf, QueryOf, CheckOf, StatsOf, UpgradeOf, DemoOf}
use Rattle.demo_index.specs.Keys.{demo_keys_of}
use Rattle.hem_build.specs.Rules.{rules_of}
use Rattle.index_file.specs.Encoded.{EncodedIndex}
use Rattle.index_text.specs.declared.fault.IndexFault.{IndexFault}
use Rattle.index_text.specs.Reading.{index_at}
use Rattle.key_check.specs.declared.checked.Checked.{Checked}
use Rattle.key_check.specs.declared.checked.Checked.TheVariants.{Good, TooLong, NoValue, Repeats, Counts, Differs}
use Rattle.key_check.specs.Checked.{checked}
use Rattle.pilot_codecs.specs.declared.code.Encoding.{Encoding}
use Rattle.pth_outside.specs.Files.{FileMap}
use Rattle.pth_outside.specs.Keys.{keys_of, first_too_long}
use Rattle.pth_top.specs.declared.TheConstants.{REPEATED_KEY}
use Rattle.pth_top.specs.Done.{Done}
use Rattle.pth_top.specs.Lists.{HasRepeat, and_then, gives, list_in, unless_too_long, too_many_result, index_by, index_for, index_in}
use Rattle.pth_top.specs.Build.{index_file_of}
use Rattle.pth_top.specs.Check.{check_result, good_result, mark_found}
use Rattle.pth_top.specs.Demo.{default_settings, demo_of_index, demo_of_keys, demo_result}
use Rattle.pth_top.specs.Pilots.{pilots_of_index}
use Rattle.pth_top.specs.Query.{faulty_result, index_read, unless_faulty, query_result, values_of}
use Rattle.pth_top.specs.Upgrade.{upgraded_from, upgrade_result}
use Rattle.pth_top.specs.Stats.{stats_of_index, stats_result}
use Rattle.pth_top.specs.Words.{command_result, with_index, CommandRepeats}

-- an outcome with this status
of_outcome : (o : OptionsData) (keys : List (List ℕ)) (outcome : Outcome) (give : IndexData → Done) → ((x : IndexData) → (give x).status ≡ 0) →
    outcome_of (rules_of o.settings) keys o.settings.seeds ≡ outcome →
    (gives (index_by o.settings.seeds outcome) give).status ≡ REPEATED_KEY → HasRepeat keys
of_outcome o keys (repeated i j) give zero is status =
    record { first = i; second = j; repeat = repeated_key (rules_of o.settings) keys [] o.settings.seeds i j is }
of_outcome o keys (exhausted causes) give zero is status = absurd (omega arith)
of_outcome o keys (built x) give zero is status = let none : (give x).status ≡ 0 = zero x in absurd (omega arith)

-- a list of keys with this status
of_keys : (o : OptionsData) (keys : List (List ℕ)) (give : IndexData → Done) → ((x : IndexData) → (give x).status ≡ 0) →
    (gives (index_for o keys) give).status ≡ REPEATED_KEY → HasRepeat keys
unfolding index_for
of_keys o [] give zero status = absurd (omega arith)
of_keys o (key ∷ keys) give zero status =
    of_outcome o (key ∷ keys) (outcome_of (rules_of o.settings) (key ∷ keys) o.settings.seeds) give zero refl status

-- keys that a demonstration generates, with this status
of_demo : (count seed : ℕ) (d : Done) → demo_result count seed ≡ d → d.status ≡ REPEATED_KEY → HasRepeat (demo_keys_of count seed)
of_demo count seed d is status =
    of_keys default_settings (demo_keys_of count seed) (demo_of_index (demo_keys_of count seed)) (λ x. refl) (ap (λ (x : Done). x.status) is ∙ status)

-- a list in which no key comes twice never has this status
pub demo_of_keys-distinct : (keys : List (List ℕ)) (d : Done) → AreDistinctKeys keys → demo_of_keys keys ≡ d → d.status ≢ REPEATED_KEY
demo_of_keys-distinct keys d distinct is status =
    let twice = of_keys default_settings keys (demo_of_index keys) (λ x. refl) (ap (λ (x : Done). x.status) is ∙ status) in
    distinct twice.first twice.second twice.repeat.places.earlier twice.repeat.places.within twice.repeat.equal

-- lines with this status
of_lines : (o : OptionsData) (lines : List (List ℕ)) (long : Option ℕ) (give : IndexData → Done) → ((x : IndexData) → (give x).status ≡ 0) →
    (gives (and_then (unless_too_long (codes "keys") o.most lines long) (index_for o)) give).status ≡ REPEATED_KEY → HasRepeat lines
of_lines o lines (Some number) give zero status = absurd (omega arith)
of_lines o lines None give zero status =
    let many : Result (List (List ℕ)) Done = Err (too_many_result (codes "keys") o.most) in
    elim (nat_lt o.most (length lines)) as (λ b.
    (gives (and_then (cond b many (Ok lines)) (index_for o)) give).status ≡ REPEATED_KEY → HasRepeat lines) [
      | true ↦ λ status. absurd (omega arith)
      | false ↦ λ status. of_keys o lines give zero status
    ] status

-- the bytes of a file with this status
of_bytes : (o : OptionsData) (bytes : List ℕ) (give : IndexData → Done) → ((x : IndexData) → (give x).status ≡ 0) →
    (gives (index_in o bytes) give).status ≡ REPEATED_KEY → HasRepeat (keys_of bytes)
unfolding index_in list_in
of_bytes o bytes give zero status = of_lines o (keys_of bytes) (first_too_long (take o.most (keys_of bytes))) give zero status

-- a file with this status
of_file : (o : OptionsData) (found : Option (List ℕ)) (give : IndexData → Done) (d : Done) → ((x : IndexData) → (give x).status ≡ 0) →
    option_map (λ bytes. gives (index_in o bytes) give) found ≡ Some d → d.status ≡ REPEATED_KEY →
    IsSomeAnd found (λ bytes. HasRepeat (keys_of bytes))
of_file o None give d zero is status = absurd cc
of_file o (Some bytes) give d zero is status =
    let same : gives (index_in o bytes) give ≡ d = cc in
    of_bytes o bytes give zero (ap (λ (x : Done). x.status) same ∙ status)

-- the lines of queries never have this status
not_of_lines : (lines : List (List ℕ)) (long : Option ℕ) (most : ℕ) (index : EncodedIndex) →
    (gives (unless_too_long (codes "queries") most lines long) (values_of index.index)).status ≡ REPEATED_KEY → ⊥
not_of_lines lines (Some number) most index status = omega arith
not_of_lines lines None most index status =
    let many : Result (List (List ℕ)) Done = Err (too_many_result (codes "queries") most) in
    elim (nat_lt most (length lines)) as (λ b.
    (gives (cond b many (Ok lines)) (values_of index.index)).status ≡ REPEATED_KEY → ⊥) [
      | true ↦ λ status. omega arith
      | false ↦ λ status. omega arith
    ] status

-- nor does a file of queries
not_of_queries : (index : EncodedIndex) (bytes : List ℕ) → (query_result index bytes).status ≡ REPEATED_KEY → ⊥
unfolding list_in
not_of_queries index bytes status =
    not_of_lines (keys_of bytes) (first_too_long (take 67108864 (keys_of bytes))) 67108864 index status

-- nor does a check of lines
not_of_found : (index : EncodedIndex) (found : Checked) → (gives (mark_found found) (λ mark. good_result index)).status ≡ REPEATED_KEY → ⊥
not_of_found index (Good mark) status = omega arith
not_of_found index (TooLong line) status = omega arith
not_of_found index (NoValue line) status = omega arith
not_of_found index (Repeats line earlier) status = omega arith
not_of_found index (Counts n lines) status = omega arith
not_of_found index (Differs kept counted) status = omega arith

-- nor does a file of lines
not_of_checked : (index : EncodedIndex) (bytes : List ℕ) → (check_result index bytes).status ≡ REPEATED_KEY → ⊥
not_of_checked index bytes status = not_of_found index (checked index.index (keys_of bytes)) status

-- nor does an upgrade of an index, with or without a mark
not_of_upgraded : (name : List ℕ) (index : EncodedIndex) (kept : Option KeyMarkData) (mark : KeyMarkData) →
    (upgraded_from name index kept mark).status ≡ REPEATED_KEY → ⊥
not_of_upgraded name index (Some kept) mark status = omega arith
not_of_upgraded name index None mark status = omega arith

-- nor by what a check came to
not_of_upgrade_found : (name : List ℕ) (index : EncodedIndex) (found : Checked) →
    (gives (mark_found found) (upgraded_from name index index.index.mark)).status ≡ REPEATED_KEY → ⊥
not_of_upgrade_found name index (Good mark) status = not_of_upgraded name index index.index.mark mark status
not_of_upgrade_found name index (TooLong line) status = omega arith
not_of_upgrade_found name index (NoValue line) status = omega arith
not_of_upgrade_found name index (Repeats line earlier) status = omega arith
not_of_upgrade_found name index (Counts n lines) status = omega arith
not_of_upgrade_found name index (Differs kept counted) status = omega arith

-- nor by a file of lines
not_of_upgrade : (name : List ℕ) (index : EncodedIndex) (bytes : List ℕ) → (upgrade_result name index bytes).status ≡ REPEATED_KEY → ⊥
not_of_upgrade name index bytes status = not_of_upgrade_found name index (checked index.index (keys_of bytes)) status

-- nor does a second file whose bytes never have it
not_of_second : (give : EncodedIndex → List ℕ → Done) → ((x : EncodedIndex) (bytes : List ℕ) → (give x bytes).status ≡ REPEATED_KEY → ⊥) →
    (index : EncodedIndex) (found : Option (List ℕ)) (d : Done) → option_map (give index) found ≡ Some d → d.status ≡ REPEATED_KEY → ⊥
not_of_second give never index None d is status = cc
not_of_second give never index (Some bytes) d is status =
    let same : give index bytes ≡ d = cc in never index bytes (ap (λ (x : Done). x.status) same ∙ status)

-- nor does an index
not_of_index : (give : EncodedIndex → List ℕ → Done) → ((x : EncodedIndex) (bytes : List ℕ) → (give x bytes).status ≡ REPEATED_KEY → ⊥) →
    (read : Result (IndexData × Encoding) IndexFault) (found : Option (List ℕ)) (d : Done) →
    with_index (unless_faulty read) (λ x. option_map (give x) found) ≡ Some d → d.status ≡ REPEATED_KEY → ⊥
not_of_index give never (Err fault) found d is status =
    let same : (faulty_result fault).status ≡ d.status = cc in omega arith
not_of_index give never (Ok read) found d is status = not_of_second give never (record { index = read.0; enc = read.1 }) found d is status

-- nor do two files
not_of_files : (give : EncodedIndex → List ℕ → Done) → ((x : EncodedIndex) (bytes : List ℕ) → (give x bytes).status ≡ REPEATED_KEY → ⊥) →
    (index second : Option (List ℕ)) (d : Done) →
    option_and_then (λ bytes. with_index (index_read bytes) (λ x. option_map (give x) second)) index ≡ Some d →
    d.status ≡ REPEATED_KEY → ⊥
not_of_files give never None second d is status = cc
not_of_files give never (Some bytes) second d is status = not_of_index give never (index_at bytes) second d is status

-- nor do the lines on an index
not_of_head : (read : Result (IndexData × Encoding) IndexFault) → (gives (unless_faulty read) stats_of_index).status ≡ REPEATED_KEY → ⊥
not_of_head (Err fault) status = omega arith
not_of_head (Ok read) status = omega arith

-- nor does the file of an index
not_of_stats : (found : Option (List ℕ)) (d : Done) → option_map stats_result found ≡ Some d → d.status ≡ REPEATED_KEY → ⊥
not_of_stats None d is status = cc
not_of_stats (Some bytes) d is status =
    let same : stats_result bytes ≡ d = cc in
    not_of_head (index_at bytes) (ap (λ (x : Done). x.status) same ∙ status)

-- a command with this status
of_command : (command : Result CommandData WordFault) (m : FileMap) (d : Done) → command_result command m ≡ Some d →
    d.status ≡ REPEATED_KEY → CommandRepeats command m
of_command (Err fault) m d is status =
    let same : 1 ≡ d.status = cc in absurd (omega arith)
of_command (Ok (PilotsOf keys o)) m d is status = of_file o (map.get m keys) pilots_of_index d (λ x. refl) is status
of_command (Ok (BuildOf keys index o)) m d is status = of_file o (map.get m keys) (index_file_of index o.enc) d (λ x. refl) is status
of_command (Ok (QueryOf index queries)) m d is status =
    absurd (not_of_files query_result not_of_queries (map.get m index) (map.get m queries) d is status)
of_command (Ok (CheckOf index keys)) m d is status =
    absurd (not_of_files check_result not_of_checked (map.get m index) (map.get m keys) d is status)
of_command (Ok (UpgradeOf index keys)) m d is status =
    absurd (not_of_files (upgrade_result index) (not_of_upgrade index) (map.get m index) (map.get m keys) d is status)
of_command (Ok (StatsOf index)) m d is status = absurd (not_of_stats (map.get m index) d is status)
of_command (Ok (DemoOf count seed)) m d is status = let same : demo_result count seed ≡ d = cc in of_demo count seed d same status

-- a command over files that tell
pub command_repeats : (command : Result CommandData WordFault) (told : Option FileMap) (d : Done) →
    IfSome told (λ m. command_result command m ≡ Some d) → d.status ≡ REPEATED_KEY → IfSome told (CommandRepeats command)
command_repeats command None d is status = tt
command_repeats command (Some m) d is status = of_command command m d is status
