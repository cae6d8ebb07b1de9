-- The values of an index whose partitions all ended well: each record has one of its own below the number of keys.
use Rattle.std.specs.Prelude.{◌≡◌, ℕ, ◌+◌, ◌<◌, ◌≤◌, Bool, true, ◌&&◌, ◌==◌, nat_lt, ◌⊎◌}
use Rattle.std.specs.Prelude.{List, [], ◌∷◌, length, map, filter, take, slice_index_or, Ok, All}
use Rattle.std.specs.List.{list_all}
use Rattle.std.proofs.Common.{refl, sym, ap, ◌∙◌, subst, arith, ⊎_elim}
use Rattle.std.proofs.lemmas.Bool.{and_parts, cases_lt, cases_order, eq-eqb, eqb-true, lt-ltb, ltb-true}
use Rattle.std.proofs.lemmas.List.{nil_from_length, get_or_past}
use Rattle.std.proofs.lemmas.List.Elements.{All-head, All-tail, filter_passes}
use Rattle.std.proofs.lemmas.List.Sums.{list_all-from_AllPass, AllPass-from_list_all}
use Rattle.pthash.specs.declared.Record.{Record}
use Rattle.pthash.specs.Apart.{are_apart-by_class, are_apart-by_images, are_apart-where, is_distinct-map}
use Rattle.pthash.specs.ApartCounts.{filter_has_some}
use Rattle.pthash.specs.Partitions.{partitions_of}
use Rattle.pthash.specs.PartitionLaws.{length-partitions_of, partition_at, All-partition_of-lt, partitions_add_up}
use Rattle.pthash.specs.RecordLaws.{HashesFit}
use Rattle.pthash.specs.Search.{is_distinct}
use Rattle.pthash.specs.Sizes.{partition_of}
use Rattle.build_outcome.specs.Attempt.{Rules, AreRules, part_of, parts_from}
use Rattle.build_outcome.specs.AttemptParts.{ArePartsOf, parts_from-ArePartsOf, part_of-count, key_count-parts, key_count-later, key_count-all}
use Rattle.build_outcome.specs.Index.{PartData}
use Rattle.build_outcome.specs.PartLaws.{HasFinished, part_of-some, pair_number, pair_numbers_differ, pair_number-below}
use Rattle.build_outcome.specs.Values.{part_at, key_count}

-- all partitions of these records ended well
pub record HasParts (rules : Rules) (seed : ℕ) (records : List Record) (parts : List PartData) : Type 0 where
  pub ranges : AreRules rules
  pub hashes : All HashesFit records
  pub ends : parts_from rules seed 0 (partitions_of records rules.parts) ≡ Ok parts

-- the partition of a record, of this many
abbrev pub part_number : ℕ → Record → ℕ
part_number count r = partition_of r.a r.b count

-- the records of a partition
abbrev pub records_in : List Record → ℕ → ℕ → List Record
records_in records count q = filter (λ r. part_number count r == q) records

-- the number of a record in its partition
abbrev pub number_within : Rules → ℕ → List PartData → Record → ℕ
number_within rules seed parts r = pair_number rules.shape.map seed (part_at parts (part_number rules.parts r)) r.a r.b

-- the number of a record in the whole, after the keys of the partitions before
abbrev pub record_number : Rules → ℕ → List PartData → Record → ℕ
record_number rules seed parts r = key_count (take (part_number rules.parts r) parts) + number_within rules seed parts r

-- whether a record's number is within its partition
abbrev is_within : Rules → ℕ → List PartData → Record → Bool
is_within rules seed parts r = nat_lt (number_within rules seed parts r) (part_at parts (part_number rules.parts r)).n

-- there are as many partitions as the rules ask for
pub length-parts : (rules : Rules) (seed : ℕ) (records : List Record) (parts : List PartData) → HasParts rules seed records parts →
    length parts ≡ rules.parts
length-parts rules seed records parts has =
    (parts_from-ArePartsOf rules seed 0 (partitions_of records rules.parts) parts has.ends).count ∙ length-partitions_of records rules.parts

-- each partition comes from its records
pub part_of-records_in : (rules : Rules) (seed : ℕ) (records : List Record) (parts : List PartData) (q : ℕ) → HasParts rules seed records parts →
    q < rules.parts → part_of rules seed (records_in records rules.parts q) ≡ Ok (part_at parts q)
part_of-records_in rules seed records parts q has within =
    let all : ArePartsOf rules seed (partitions_of records rules.parts) parts =
    parts_from-ArePartsOf rules seed 0 (partitions_of records rules.parts) parts has.ends in
    ap (part_of rules seed) (sym (partition_at records rules.parts q within))
    ∙ all.each q (omega (arith, length-partitions_of records rules.parts))

-- a partition that has a record comes from a search that ended
has_finished : (rules : Rules) (seed : ℕ) (records : List Record) (parts : List PartData) (q : ℕ) → HasParts rules seed records parts →
    q < rules.parts → 0 < length (records_in records rules.parts q) → HasFinished rules seed (records_in records rules.parts q) (part_at parts q)
has_finished rules seed records parts q has within some =
    part_of-some rules seed (records_in records rules.parts q) (part_at parts q) has.ranges.shape some
    (part_of-records_in rules seed records parts q has within)

-- the numbers of all partitions' keys add up to the number of records
pub key_count-records : (rules : Rules) (seed : ℕ) (records : List Record) (parts : List PartData) → HasParts rules seed records parts →
    key_count parts ≡ length records
key_count-records rules seed records parts has =
    key_count-parts rules seed 0 (partitions_of records rules.parts) parts has.ranges.shape has.ends
    ∙ partitions_add_up records rules.parts has.ranges.some_part has.hashes

-- the partition of each record has a key
pub part_has_key : (rules : Rules) (seed : ℕ) (records : List Record) (parts : List PartData) → HasParts rules seed records parts →
    All (λ r. 0 < (part_at parts (part_number rules.parts r)).n) records
part_has_key rules seed records parts has i d within =
    let r : Record = slice_index_or records i d in
    let q : ℕ = part_number rules.parts r in
    let below : q < rules.parts = All-partition_of-lt records rules.parts has.ranges.some_part has.hashes i d within in
    let some : 0 < length (records_in records rules.parts q) =
    filter_has_some (λ x. part_number rules.parts x == q) records i d within (eq-eqb q q refl) in
    let count : (part_at parts q).n ≡ length (records_in records rules.parts q) =
    part_of-count rules seed (records_in records rules.parts q) (part_at parts q) has.ranges.shape (part_of-records_in rules seed records parts q has below) in
    omega arith

-- each record's number is within its partition
all_within : (rules : Rules) (seed : ℕ) (records : List Record) (parts : List PartData) → HasParts rules seed records parts →
    list_all (is_within rules seed parts) records ≡ true
all_within rules seed records parts has =
    list_all-from_AllPass (is_within rules seed parts) records
    (λ i d within.
    let r : Record = slice_index_or records i d in
    let q : ℕ = part_number rules.parts r in
    let below : q < rules.parts = All-partition_of-lt records rules.parts has.ranges.some_part has.hashes i d within in
    let some : 0 < length (records_in records rules.parts q) =
    filter_has_some (λ x. part_number rules.parts x == q) records i d within (eq-eqb q q refl) in
    let finished : HasFinished rules seed (records_in records rules.parts q) (part_at parts q) =
    has_finished rules seed records parts q has below some in
    let lower = pair_number-below rules seed (records_in records rules.parts q) finished.state finished.finished r.a r.b in
    lt-ltb (number_within rules seed parts r) (part_at parts q).n
    (subst (λ p. pair_number rules.shape.map seed p r.a r.b < p.n) finished.is lower))

-- a number within a partition that is there
within_parts : (parts : List PartData) (q k : ℕ) → k < (part_at parts q).n → q < length parts
within_parts parts q k within =
    ⊎_elim
    (λ (inside : q < length parts). inside)
    (λ (past : length parts ≤ q).
    let none : (part_at parts q).n ≡ 0 = ap (λ p. p.n) (get_or_past parts q (record { n = 0; pilots = []; free = [] }) past) in
    absurd (omega arith))
    (cases_lt q (length parts))

-- equal numbers within two partitions are of one partition
same_part : (parts : List PartData) (q other k l : ℕ) → k < (part_at parts q).n → l < (part_at parts other).n →
    key_count (take q parts) + k ≡ key_count (take other parts) + l → q ≡ other
same_part parts q other k l first second same =
    ⊎_elim
    (λ (equal : q ≡ other). equal)
    (λ (differ : (q < other) ⊎ (other < q)).
    ⊎_elim
    (λ (lower : q < other).
    let before : key_count (take q parts) + (part_at parts q).n ≤ key_count (take other parts) =
    key_count-later parts q other (within_parts parts q k first) lower in
    absurd (omega arith))
    (λ (higher : other < q).
    let before : key_count (take other parts) + (part_at parts other).n ≤ key_count (take q parts) =
    key_count-later parts other q (within_parts parts other l second) higher in
    absurd (omega arith))
    differ)
    (cases_order q other)

-- functions that agree on a list have the same images of it
map_agree : {A B : Type 0} (f g : A → B) (xs : List A) → All (λ x. f x ≡ g x) xs → map f xs ≡ map g xs
map_agree f g [] agree = refl
map_agree f g (x ∷ xs) agree = λ i. All-head (λ y. f y ≡ g y) x xs agree i ∷ map_agree f g xs (All-tail (λ y. f y ≡ g y) x xs agree) i

-- the numbers within a partition are pairwise different
numbers_within_differ : (rules : Rules) (seed : ℕ) (records : List Record) (parts : List PartData) (q : ℕ) → HasParts rules seed records parts →
    q < rules.parts → is_distinct (map (number_within rules seed parts) (records_in records rules.parts q)) ≡ true
numbers_within_differ rules seed records parts q has below =
    let rs : List Record = records_in records rules.parts q in
    let here : Record → ℕ = λ r. pair_number rules.shape.map seed (part_at parts q) r.a r.b in
    let same : map (number_within rules seed parts) rs ≡ map here rs =
    map_agree (number_within rules seed parts) here rs
    (λ i d within.
    let r : Record = slice_index_or rs i d in
    let theirs : part_number rules.parts r ≡ q =
    eqb-true (part_number rules.parts r) q (filter_passes (λ x. part_number rules.parts x == q) records i d within) in
    ap (λ k. pair_number rules.shape.map seed (part_at parts k) r.a r.b) theirs) in
    ap is_distinct same
    ∙ ⊎_elim
    (λ (some : 0 < length rs).
    let finished : HasFinished rules seed rs (part_at parts q) = has_finished rules seed records parts q has below some in
    subst (λ p. is_distinct (map (λ r. pair_number rules.shape.map seed p r.a r.b) rs) ≡ true) finished.is
    (pair_numbers_differ rules seed rs finished.state finished.finished))
    (λ (none : length rs ≤ 0). ap (λ xs. is_distinct (map here xs)) (nil_from_length rs (omega arith)))
    (cases_lt 0 (length rs))

-- the numbers of the records are pairwise different
pub record_numbers_differ : (rules : Rules) (seed : ℕ) (records : List Record) (parts : List PartData) → HasParts rules seed records parts →
    is_distinct (map (record_number rules seed parts) records) ≡ true
record_numbers_differ rules seed records parts has =
    let number : Record → ℕ = record_number rules seed parts in
    let inside : Record → Bool = is_within rules seed parts in
    let test : Record → Record → Bool = λ r s. inside r && (inside s && number s == number r) in
    let one_part : (r s : Record) → test r s ≡ true → part_number rules.parts r ≡ part_number rules.parts s =
    λ r s passes.
    let first = and_parts (inside r) (inside s && number s == number r) passes in
    let second = and_parts (inside s) (number s == number r) first.1 in
    same_part parts (part_number rules.parts r) (part_number rules.parts s) (number_within rules seed parts r) (number_within rules seed parts s)
    (ltb-true (number_within rules seed parts r) (part_at parts (part_number rules.parts r)).n first.0)
    (ltb-true (number_within rules seed parts s) (part_at parts (part_number rules.parts s)).n second.0)
    (sym (eqb-true (number s) (number r) second.1)) in
    let one_number : (r s : Record) → test r s ≡ true → number_within rules seed parts r ≡ number_within rules seed parts s =
    λ r s passes.
    let first = and_parts (inside r) (inside s && number s == number r) passes in
    let second = and_parts (inside s) (number s == number r) first.1 in
    let same : number s ≡ number r = eqb-true (number s) (number r) second.1 in
    let before : key_count (take (part_number rules.parts r) parts) ≡ key_count (take (part_number rules.parts s) parts) =
    ap (λ q. key_count (take q parts)) (one_part r s passes) in
    omega arith in
    let below : list_all (λ r. nat_lt (part_number rules.parts r) rules.parts) records ≡ true =
    list_all-from_AllPass (λ r. nat_lt (part_number rules.parts r) rules.parts) records
    (λ i d within. lt-ltb (part_number rules.parts (slice_index_or records i d)) rules.parts
    (All-partition_of-lt records rules.parts has.ranges.some_part has.hashes i d within)) in
    is_distinct-map number records
    ∙ are_apart-where inside (λ r s. number s == number r) records (all_within rules seed records parts has)
    (are_apart-by_class test (part_number rules.parts) rules.parts one_part records below
    (λ q lower. are_apart-by_images test (number_within rules seed parts) one_number (records_in records rules.parts q)
    (numbers_within_differ rules seed records parts q has lower)))

-- the number of each record is below the number of records
pub record_number-below : (rules : Rules) (seed : ℕ) (records : List Record) (parts : List PartData) → HasParts rules seed records parts →
    All (λ r. record_number rules seed parts r < length records) records
record_number-below rules seed records parts has i d within =
    let r : Record = slice_index_or records i d in
    let q : ℕ = part_number rules.parts r in
    let inside : is_within rules seed parts r ≡ true =
    AllPass-from_list_all (is_within rules seed parts) records (all_within rules seed records parts has) i d within in
    let lower : number_within rules seed parts r < (part_at parts q).n = ltb-true (number_within rules seed parts r) (part_at parts q).n inside in
    let most : key_count (take q parts) + (part_at parts q).n ≤ key_count parts =
    key_count-all parts q (within_parts parts q (number_within rules seed parts r) lower) in
    let count : key_count parts ≡ length records = key_count-records rules seed records parts has in
    omega arith
