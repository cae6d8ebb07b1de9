-- The index of a complete attempt is one-to-one: its keys have pairwise different values below their number.
use Rattle.std.specs.Prelude.{◌≡◌, ◌≢◌, ℕ, ◌+◌, ◌<◌, true, List, [], length}
use Rattle.std.specs.Prelude.{map, take, slice_index_or, Some, option_map, IsSomeAnd, All, Ok}
use Rattle.std.specs.Option.{unwrap_or}
use Rattle.std.proofs.Common.{sym, ap, ◌∙◌, subst, arith}
use Rattle.std.proofs.lemmas.Grind.{same_number_lists}
use Rattle.std.proofs.lemmas.List.{length-map, get_or-map}
use Rattle.std.proofs.lemmas.List.Elements.{All-from_get_or}
use Rattle.pthash.specs.declared.Record.{Record}
use Rattle.pthash.specs.DistinctLaws.{is_distinct-at}
use Rattle.pthash.specs.Hash.{first_hash, second_hash}
use Rattle.pthash.specs.Records.{records_of}
use Rattle.pthash.specs.RecordLaws.{record_at_place, length-records_of, get_or-records_of}
use Rattle.pthash.specs.Search.{is_distinct}
use Rattle.pthash.specs.Sizes.{partition_of}
use Rattle.build_outcome.specs.Attempt.{Rules, AreRules}
use Rattle.build_outcome.specs.AttemptLaws.{parts_of, parts_of-HasParts}
use Rattle.build_outcome.specs.Clash.{key_at}
use Rattle.build_outcome.specs.Index.{PartData, IndexData}
use Rattle.build_outcome.specs.Outcome.{index_of}
use Rattle.build_outcome.specs.PartLaws.{part_value-some}
use Rattle.build_outcome.specs.ValueLaws.{HasParts, part_number, record_number, length-parts, part_has_key}
use Rattle.build_outcome.specs.ValueLaws.{record_number-below, record_numbers_differ}
use Rattle.build_outcome.specs.Values.{part_at, part_value, key_count, pair_value, value_of}

-- the value of a key as a number, or 0 where it has none
abbrev pub key_number : IndexData → List ℕ → ℕ
key_number x key = unwrap_or (value_of x key) 0

-- each key has a value below the number of keys, and no two have the same
pub record IsOneToOne (x : IndexData) (keys : List (List ℕ)) : Type 0 where
  pub below : All (λ key. IsSomeAnd (value_of x key) (λ value. value < x.n)) keys
  pub distinct : is_distinct (map (key_number x) keys) ≡ true

-- the value of a record whose partition has a key
value_of_record : (rules : Rules) (keys : List (List ℕ)) (seed : ℕ) (parts : List PartData) (a b : ℕ) → length parts ≡ rules.parts →
    0 < (part_at parts (partition_of a b rules.parts)).n →
    pair_value (index_of rules keys seed parts) a b ≡ Some (record_number rules seed parts (record { a = a; b = b; ordinal = 0 }))
value_of_record rules keys seed parts a b count some =
    let q : ℕ = partition_of a b rules.parts in
    ap (λ k. let p = partition_of a b k in option_map (λ v. key_count (take p parts) + v) (part_value rules.shape.map seed (part_at parts p) a b)) count
    ∙ ap (option_map (λ v. key_count (take q parts) + v)) (part_value-some rules.shape.map seed (part_at parts q) a b some)

-- the value of the key at a place is the number of its record
pub value_of-index : (rules : Rules) (keys : List (List ℕ)) (seed : ℕ) (parts : List PartData) → AreRules rules →
    parts_of rules keys seed ≡ Ok parts → (k : ℕ) → k < length keys →
    value_of (index_of rules keys seed parts) (key_at keys k) ≡ Some (record_number rules seed parts (record_at_place (key_at keys k) seed k))
unfolding value_of
value_of-index rules keys seed parts ranges ends k within =
    let has : HasParts rules seed (records_of keys seed) parts = parts_of-HasParts rules keys seed parts ranges ends in
    let none : Record = record { a = 0; b = 0; ordinal = 0 } in
    let here : slice_index_or (records_of keys seed) k none ≡ record_at_place (key_at keys k) seed k = get_or-records_of keys seed k none within in
    let some : 0 < (part_at parts (part_number rules.parts (slice_index_or (records_of keys seed) k none))).n =
    part_has_key rules seed (records_of keys seed) parts has k none (omega (arith, length-records_of keys seed)) in
    value_of_record rules keys seed parts (first_hash (key_at keys k) seed) (second_hash (key_at keys k) seed)
    (length-parts rules seed (records_of keys seed) parts has)
    (subst (λ r. 0 < (part_at parts (part_number rules.parts r)).n) here some)

-- the values of the keys, in their order, are the numbers of their records
values_are_numbers : (rules : Rules) (keys : List (List ℕ)) (seed : ℕ) (parts : List PartData) → AreRules rules →
    parts_of rules keys seed ≡ Ok parts →
    map (key_number (index_of rules keys seed parts)) keys ≡ map (record_number rules seed parts) (records_of keys seed)
values_are_numbers rules keys seed parts ranges ends =
    let x : IndexData = index_of rules keys seed parts in
    let number : Record → ℕ = record_number rules seed parts in
    let none : Record = record { a = 0; b = 0; ordinal = 0 } in
    let count : length (map (key_number x) keys) ≡ length keys = length-map keys (key_number x) in
    let records_count : length (records_of keys seed) ≡ length keys = length-records_of keys seed in
    same_number_lists (map (key_number x) keys) (map number (records_of keys seed))
    (count ∙ sym (length-map (records_of keys seed) number ∙ records_count))
    (λ k within.
    let here : k < length keys = omega arith in
    get_or-map (key_number x) keys k [] 0 here
    ∙ ap (λ v. unwrap_or v 0) (value_of-index rules keys seed parts ranges ends k here)
    ∙ ap number (sym (get_or-records_of keys seed k none here))
    ∙ sym (get_or-map number (records_of keys seed) k none 0 (omega arith)))

-- the index of a complete attempt is one-to-one on its keys
pub index_of-IsOneToOne : (rules : Rules) (keys : List (List ℕ)) (seed : ℕ) (parts : List PartData) → AreRules rules →
    parts_of rules keys seed ≡ Ok parts → IsOneToOne (index_of rules keys seed parts) keys
index_of-IsOneToOne rules keys seed parts ranges ends =
    let x : IndexData = index_of rules keys seed parts in
    let has : HasParts rules seed (records_of keys seed) parts = parts_of-HasParts rules keys seed parts ranges ends in
    let none : Record = record { a = 0; b = 0; ordinal = 0 } in
    let count : length (records_of keys seed) ≡ length keys = length-records_of keys seed in
    record {
      below = All-from_get_or (λ key. IsSomeAnd (value_of x key) (λ value. value < x.n)) keys []
          (λ k within.
          let here : slice_index_or (records_of keys seed) k none ≡ record_at_place (key_at keys k) seed k = get_or-records_of keys seed k none within in
          let lower : record_number rules seed parts (slice_index_or (records_of keys seed) k none) < length (records_of keys seed) =
          record_number-below rules seed (records_of keys seed) parts has k none (omega arith) in
          let lower_too : record_number rules seed parts (record_at_place (key_at keys k) seed k) < length keys =
          subst (λ r. record_number rules seed parts r < length keys) here (omega arith) in
          subst (λ v. IsSomeAnd v (λ value. value < length keys)) (sym (value_of-index rules keys seed parts ranges ends k within)) lower_too);
      distinct = ap is_distinct (values_are_numbers rules keys seed parts ranges ends) ∙ record_numbers_differ rules seed (records_of keys seed) parts has;
    }

-- keys at two places have different values where an index is one-to-one
pub values_differ : (x : IndexData) (keys : List (List ℕ)) (i j : ℕ) → IsOneToOne x keys → i < j → j < length keys →
    value_of x (key_at keys i) ≢ value_of x (key_at keys j)
values_differ x keys i j one_to_one before within same =
    let count : length (map (key_number x) keys) ≡ length keys = length-map keys (key_number x) in
    is_distinct-at (map (key_number x) keys) i j one_to_one.distinct before (omega arith)
    (get_or-map (key_number x) keys i [] 0 (omega arith) ∙ ap (λ v. unwrap_or v 0) same ∙ sym (get_or-map (key_number x) keys j [] 0 within))
