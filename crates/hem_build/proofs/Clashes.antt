-- The first clash of a list of keys, from the least clash of its records.
use Rattle.std.proofs.Common.{◌≡◌, ℕ, ◌<◌, ◌≤◌, true, false}
use Rattle.std.proofs.Common.{List, length, Option, Some, None, IfSome}
use Rattle.std.proofs.Common.{refl, sym, ap, ◌∙◌, subst, arith}
use Rattle.std.specs.Prelude.{◌↔◌, ◌==◌, IsNone}
use Rattle.std.proofs.lemmas.Bool.{and_parts, eqb-true, false_from_ne_true, and_from, eq-eqb}
use Rattle.pthash.specs.declared.Record.{Record}
use Rattle.pthash.specs.Hash.{first_hash, second_hash}
use Rattle.pthash.specs.RecordLaws.{length-records_of, get_or-records_of, ordinals_differ}
use Rattle.pthash.specs.Records.{records_of}
use Rattle.bucket_map.specs.Clash.{HaveSamePair, HasDistinctPairs, HasDistinctOrdinals, record_at, Clash, IsLeastClash}
use Rattle.build_outcome.specs.Clash.{key_at, is_twin, clash_of}
use Rattle.build_outcome.specs.ClashLaws.{IsFirstClash, clash_of-found, clash_of-none}

-- the record of a key at a place
abbrev pub record_of : List (List ℕ) → ℕ → ℕ → Record
record_of keys seed k = record { a = first_hash (key_at keys k) seed; b = second_hash (key_at keys k) seed; ordinal = k }

-- twins have records with the same pair
same_pair_of_twins : (keys : List (List ℕ)) (seed x y : ℕ) → x < length keys → y < length keys → is_twin keys seed y x ≡ true →
    HaveSamePair (record_at (records_of keys seed) x) (record_at (records_of keys seed) y)
same_pair_of_twins keys seed x y x_in y_in twins =
    let d : Record = record { a = 0; b = 0; ordinal = 0 } in
    let first : record_at (records_of keys seed) x ≡ record_of keys seed x = get_or-records_of keys seed x d x_in in
    let second : record_at (records_of keys seed) y ≡ record_of keys seed y = get_or-records_of keys seed y d y_in in
    let parts = and_parts (first_hash (key_at keys x) seed == first_hash (key_at keys y) seed)
    (second_hash (key_at keys x) seed == second_hash (key_at keys y) seed) twins in (
      ap (λ (r : Record). r.a) first ∙ eqb-true (first_hash (key_at keys x) seed) (first_hash (key_at keys y) seed) parts.0
          ∙ sym (ap (λ (r : Record). r.a) second),
      ap (λ (r : Record). r.b) first ∙ eqb-true (second_hash (key_at keys x) seed) (second_hash (key_at keys y) seed)
          parts.1 ∙ sym (ap (λ (r : Record). r.b) second),
    )

-- two twins make a clash
clash_of_twins : (keys : List (List ℕ)) (seed x y : ℕ) → x < y → y < length keys → is_twin keys seed y x ≡ true → Clash (records_of keys seed) x y
clash_of_twins keys seed x y before within twins =
    let d : Record = record { a = 0; b = 0; ordinal = 0 } in
    let count : length (records_of keys seed) ≡ length keys = length-records_of keys seed in
    record {
      first = x;
      second = y;
      apart = omega arith;
      first_inside = omega arith;
      second_inside = omega arith;
      first_ordinal = ap (λ (r : Record). r.ordinal) (get_or-records_of keys seed x d (omega arith));
      second_ordinal = ap (λ (r : Record). r.ordinal) (get_or-records_of keys seed y d within);
      same_pair = same_pair_of_twins keys seed x y (omega arith) within twins;
    }

-- a clash of records, at their places
twins_of_clash : (keys : List (List ℕ)) (seed i j : ℕ) → Clash (records_of keys seed) i j → (j < length keys) × (is_twin keys seed j i ≡ true)
twins_of_clash keys seed i j clash =
    let d : Record = record { a = 0; b = 0; ordinal = 0 } in
    let count : length (records_of keys seed) ≡ length keys = length-records_of keys seed in
    let first_in : clash.first < length keys = omega (arith, clash.first_inside) in
    let second_in : clash.second < length keys = omega (arith, clash.second_inside) in
    let first : record_at (records_of keys seed) clash.first ≡ record_of keys seed clash.first = get_or-records_of keys seed clash.first d first_in in
    let second : record_at (records_of keys seed) clash.second ≡ record_of keys seed clash.second = get_or-records_of keys seed clash.second d second_in in
    let at_i : clash.first ≡ i = sym (ap (λ (r : Record). r.ordinal) first) ∙ clash.first_ordinal in
    let at_j : clash.second ≡ j = sym (ap (λ (r : Record). r.ordinal) second) ∙ clash.second_ordinal in
    let same_a : first_hash (key_at keys clash.first) seed ≡ first_hash (key_at keys clash.second) seed = sym
    (ap (λ (r : Record). r.a) first) ∙ clash.same_pair.0 ∙ ap (λ (r : Record). r.a) second in
    let same_b : second_hash (key_at keys clash.first) seed ≡ second_hash (key_at keys clash.second) seed = sym
    (ap (λ (r : Record). r.b) first) ∙ clash.same_pair.1 ∙ ap (λ (r : Record). r.b) second in
    let twins : is_twin keys seed clash.second clash.first ≡ true =
    and_from (first_hash (key_at keys clash.first) seed == first_hash (key_at keys clash.second) seed)
    (second_hash (key_at keys clash.first) seed == second_hash (key_at keys clash.second) seed)
    (eq-eqb (first_hash (key_at keys clash.first) seed) (first_hash (key_at keys clash.second) seed) same_a)
    (eq-eqb (second_hash (key_at keys clash.first) seed) (second_hash (key_at keys clash.second) seed) same_b) in
    (omega arith, subst (λ (p : ℕ). is_twin keys seed p i ≡ true) at_j (subst (λ (p : ℕ). is_twin keys seed clash.second p ≡ true) at_i twins))

-- the least clash of the records is the first clash of the keys
first_clash_of_least : (keys : List (List ℕ)) (seed i j : ℕ) → IsLeastClash (records_of keys seed) i j → IsFirstClash keys seed i j
first_clash_of_least keys seed i j least =
    let place = twins_of_clash keys seed i j least.clash in
    record {
      earlier = least.earlier;
      within = place.0;
      twins = place.1;
      least_second = λ x y before lower. false_from_ne_true (is_twin keys seed y x)
          (λ twins. let later : j ≤ y = least.least_second x y before
          (clash_of_twins keys seed x y before (omega (arith, place.0)) twins) in absurd (omega arith));
      least_first = λ x lower. false_from_ne_true (is_twin keys seed j x)
          (λ twins. let later : i ≤ x = least.least_first x (omega (arith, least.earlier))
          (clash_of_twins keys seed x j (omega (arith, least.earlier)) place.0 twins) in absurd (omega arith));
    }

-- where the pairs differ no two keys are twins
no_twins : (keys : List (List ℕ)) (seed : ℕ) → HasDistinctPairs (records_of keys seed) → (x y : ℕ) →
    x < y → y < length keys → is_twin keys seed y x ≡ false
no_twins keys seed distinct x y before within =
    false_from_ne_true (is_twin keys seed y x)
    (λ twins. distinct x y (record { a = 0; b = 0; ordinal = 0 }) before (omega (arith, length-records_of keys seed))
    (same_pair_of_twins keys seed x y (omega arith) within twins))

-- what `least_clash` answers on the records of the keys is the first clash of the keys
pub clash_of_records : (keys : List (List ℕ)) (seed : ℕ) (answer : Option (ℕ × ℕ)) → (IsNone answer ↔ HasDistinctPairs (records_of keys seed)) →
    (HasDistinctOrdinals (records_of keys seed) → IfSome answer (λ c. IsLeastClash (records_of keys seed) c.0 c.1)) → answer ≡ clash_of keys seed
clash_of_records keys seed None none least = sym (clash_of-none keys seed (no_twins keys seed (none.0 refl)))
clash_of_records keys seed (Some c) none least =
    sym (clash_of-found keys seed c.0 c.1 (first_clash_of_least keys seed c.0 c.1 (least (ordinals_differ keys seed))))

-- the same of a list that holds those records
pub clash_of_seen : (keys : List (List ℕ)) (seed : ℕ) (seen : List Record) (answer : Option (ℕ × ℕ)) → seen ≡ records_of keys seed →
    (IsNone answer ↔ HasDistinctPairs seen) → (HasDistinctOrdinals seen → IfSome answer (λ c. IsLeastClash seen c.0 c.1)) →
    answer ≡ clash_of keys seed
clash_of_seen keys seed seen answer are none least =
    clash_of_records keys seed answer
    (subst (λ (rs : List Record). IsNone answer ↔ HasDistinctPairs rs) are none)
    (subst (λ (rs : List Record). HasDistinctOrdinals rs → IfSome answer (λ c. IsLeastClash rs c.0 c.1)) are least)
