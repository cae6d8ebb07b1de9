-- An attempt all of whose partitions end well has no clash, so it may be read without looking for one.
use Rattle.std.specs.Prelude.{◌≡◌, ℕ, Bool, true, ◌&&◌, ◌==◌, List, length, slice_index_or, Option, Some, None, Result, Ok, Err}
use Rattle.std.proofs.Common.{refl, sym, ap, ◌∙◌, arith}
use Rattle.std.proofs.lemmas.Bool.{and_parts, eqb-true}
use Rattle.pthash.specs.declared.Record.{Record}
use Rattle.pthash.specs.Apart.{are_apart, are_apart-by_images, are_apart-at}
use Rattle.pthash.specs.Partitions.{partitions_of}
use Rattle.pthash.specs.Records.{records_of}
use Rattle.pthash.specs.RecordLaws.{record_at_place, length-records_of, get_or-records_of, All-HashesFit-records_of}
use Rattle.build_outcome.specs.Attempt.{Rules, AreRules, stuck, complete, by_parts, unless_clash, attempt_of, parts_from}
use Rattle.build_outcome.specs.Clash.{key_at, clash_of}
use Rattle.build_outcome.specs.ClashLaws.{clash_of-none}
use Rattle.build_outcome.specs.Index.{PartData}
use Rattle.build_outcome.specs.ValueLaws.{HasParts, record_number, record_numbers_differ}

-- the partitions of a list of keys at a seed, or the first that is stuck
abbrev pub parts_of : Rules → List (List ℕ) → ℕ → Result (List PartData) (ℕ × ℕ)
parts_of rules keys seed = parts_from rules seed 0 (partitions_of (records_of keys seed) rules.parts)

-- where they all end well, so do those of the records
pub parts_of-HasParts : (rules : Rules) (keys : List (List ℕ)) (seed : ℕ) (parts : List PartData) → AreRules rules →
    parts_of rules keys seed ≡ Ok parts → HasParts rules seed (records_of keys seed) parts
parts_of-HasParts rules keys seed parts ranges ends = record { ranges = ranges; hashes = All-HashesFit-records_of keys seed; ends = ends }

-- whether two records have the same pair of hashes
abbrev pub have_same_pair : Record → Record → Bool
have_same_pair r s = r.a == s.a && r.b == s.b

-- no two records of partitions that all ended well have the same pair
pub pairs_are_apart : (rules : Rules) (seed : ℕ) (records : List Record) (parts : List PartData) → HasParts rules seed records parts →
    are_apart have_same_pair records ≡ true
pairs_are_apart rules seed records parts has =
    let of_pair : ℕ → ℕ → ℕ = λ a b. record_number rules seed parts (record { a = a; b = b; ordinal = 0 }) in
    are_apart-by_images have_same_pair (record_number rules seed parts)
    (λ r s same.
    let both = and_parts (r.a == s.a) (r.b == s.b) same in
    let first : r.a ≡ s.a = eqb-true r.a s.a both.0 in
    let second : r.b ≡ s.b = eqb-true r.b s.b both.1 in
    λ i. of_pair (first i) (second i))
    records (record_numbers_differ rules seed records parts has)

-- so the keys have no clash
pub no_clash : (rules : Rules) (keys : List (List ℕ)) (seed : ℕ) (parts : List PartData) → AreRules rules → parts_of rules keys seed ≡ Ok parts →
    clash_of keys seed ≡ None
no_clash rules keys seed parts ranges ends =
    let records : List Record = records_of keys seed in
    let none : Record = record { a = 0; b = 0; ordinal = 0 } in
    let apart : are_apart have_same_pair records ≡ true =
    pairs_are_apart rules seed records parts (parts_of-HasParts rules keys seed parts ranges ends) in
    clash_of-none keys seed
    (λ x y before within.
    let count : length records ≡ length keys = length-records_of keys seed in
    let first : slice_index_or records x none ≡ record_at_place (key_at keys x) seed x = get_or-records_of keys seed x none (omega arith) in
    let second : slice_index_or records y none ≡ record_at_place (key_at keys y) seed y = get_or-records_of keys seed y none within in
    (λ i. have_same_pair (sym first i) (sym second i)) ∙ are_apart-at have_same_pair records x y none apart before (omega arith))

-- an attempt all of whose partitions end well is complete
pub attempt_of-complete : (rules : Rules) (keys : List (List ℕ)) (seed : ℕ) (parts : List PartData) → AreRules rules →
    parts_of rules keys seed ≡ Ok parts → attempt_of rules keys seed ≡ complete parts
unfolding attempt_of
attempt_of-complete rules keys seed parts ranges ends = rw (no_clash rules keys seed parts ranges ends, ends) refl

-- an attempt with a stuck partition is stuck there, unless the keys have a clash
pub attempt_of-stuck : (rules : Rules) (keys : List (List ℕ)) (seed part bucket : ℕ) → parts_of rules keys seed ≡ Err (part, bucket) →
    attempt_of rules keys seed ≡ unless_clash (clash_of keys seed) (stuck part bucket)
unfolding attempt_of
attempt_of-stuck rules keys seed part bucket ends = ap (λ r. unless_clash (clash_of keys seed) (by_parts r)) ends

-- the partitions of an attempt without a clash that is complete
complete_by : (clash : Option (ℕ × ℕ)) (answer : Result (List PartData) (ℕ × ℕ)) (parts : List PartData) →
    unless_clash clash (by_parts answer) ≡ complete parts → answer ≡ Ok parts
complete_by (Some c) answer parts is = absurd cc
complete_by None (Err e) parts is = absurd cc
complete_by None (Ok others) parts is =
    let same : others ≡ parts = cc in
    ap (λ ps. Ok ps) same

-- all partitions of a complete attempt ended well
pub complete-parts : (rules : Rules) (keys : List (List ℕ)) (seed : ℕ) (parts : List PartData) → attempt_of rules keys seed ≡ complete parts →
    parts_of rules keys seed ≡ Ok parts
unfolding attempt_of
complete-parts rules keys seed parts is = complete_by (clash_of keys seed) (parts_of rules keys seed) parts is
