-- The partitions of an attempt that all ended well, one by one and counted.
use Rattle.std.specs.Prelude.{◌≡◌, ℕ, zero, suc, ◌+◌, ◌<◌, ◌≤◌, List, []}
use Rattle.std.specs.Prelude.{◌∷◌, length, take, sum_by, slice_index_or, Result, Ok, Err}
use Rattle.std.proofs.Common.{refl, sym, ap, ◌∙◌, subst, arith, ⊎_elim}
use Rattle.std.proofs.lemmas.Bool.{cases_lt}
use Rattle.std.proofs.lemmas.List.{nil_from_length, take-take}
use Rattle.std.proofs.lemmas.List.Sums.{sum_by-cons, sum_by_more, sum_by-take-le}
use Rattle.pthash.specs.declared.Record.{Record}
use Rattle.pthash.specs.Shapes.{IsShape}
use Rattle.build_outcome.specs.Attempt.{Rules, part_of, before_parts, parts_from}
use Rattle.build_outcome.specs.Index.{PartData}
use Rattle.build_outcome.specs.PartLaws.{HasFinished, part_of-some, part_of-none}
use Rattle.build_outcome.specs.Values.{part_at, key_count}

-- the first partition and the others all ended well
record HasFirst (first : Result PartData ℕ) (more : Result (List PartData) (ℕ × ℕ)) (parts : List PartData) : Type 0 where
  part : PartData
  others : List PartData
  first_ends : first ≡ Ok part
  more_end : more ≡ Ok others
  is : part ∷ others ≡ parts

-- what such an answer is made of
has_first : (number : ℕ) (first : Result PartData ℕ) (more : Result (List PartData) (ℕ × ℕ)) (parts : List PartData) →
    before_parts number first more ≡ Ok parts → HasFirst first more parts
has_first number (Err bucket) more parts ends = absurd cc
has_first number (Ok part) (Err stuck) parts ends = absurd cc
has_first number (Ok part) (Ok others) parts ends = record { part = part; others = others; first_ends = refl; more_end = refl; is = cc }

-- a partition for each list of records, in their order
pub record ArePartsOf (rules : Rules) (seed : ℕ) (lists : List (List Record)) (parts : List PartData) : Type 0 where
  pub count : length parts ≡ length lists
  pub each : (q : ℕ) → q < length lists → part_of rules seed (slice_index_or lists q []) ≡ Ok (part_at parts q)

-- one list more before the others
one_more_part : (rules : Rules) (seed : ℕ) (records : List Record) (lists : List (List Record)) (part : PartData) (others : List PartData) →
    part_of rules seed records ≡ Ok part → ArePartsOf rules seed lists others → ArePartsOf rules seed (records ∷ lists) (part ∷ others)
one_more_part rules seed records lists part others ends rest = record {
  count = omega (arith, rest.count);
  each = λ q within. at q within;
}
  where
    at : (q : ℕ) → q < suc (length lists) → part_of rules seed (slice_index_or (records ∷ lists) q []) ≡ Ok (part_at (part ∷ others) q)
    at zero within = ends
    at (suc q) within = rest.each q (omega arith)

-- where all partitions end well, each comes from its records
pub parts_from-ArePartsOf : (rules : Rules) (seed number : ℕ) (lists : List (List Record)) (parts : List PartData) →
    parts_from rules seed number lists ≡ Ok parts → ArePartsOf rules seed lists parts
parts_from-ArePartsOf rules seed number [] parts ends =
    let none : [] ≡ parts = cc in
    subst (ArePartsOf rules seed []) none (record { count = refl; each = λ q within. absurd (omega arith) })
parts_from-ArePartsOf rules seed number (records ∷ lists) parts ends =
    let first : HasFirst (part_of rules seed records) (parts_from rules seed (number + 1) lists) parts =
    has_first number (part_of rules seed records) (parts_from rules seed (number + 1) lists) parts ends in
    subst (ArePartsOf rules seed (records ∷ lists)) first.is
    (one_more_part rules seed records lists first.part first.others first.first_ends
    (parts_from-ArePartsOf rules seed (number + 1) lists first.others first.more_end))

-- a partition has as many keys as it has records
pub part_of-count : (rules : Rules) (seed : ℕ) (records : List Record) (part : PartData) → IsShape rules.shape →
    part_of rules seed records ≡ Ok part → part.n ≡ length records
part_of-count rules seed records part shape ends =
    ⊎_elim
    (λ (some : 0 < length records).
    let has : HasFinished rules seed records part = part_of-some rules seed records part shape some ends in
    ap (λ p. p.n) (sym has.is))
    (λ (none : length records ≤ 0).
    let empty : records ≡ [] = nil_from_length records (omega arith) in
    let same : part_of rules seed records ≡ Ok (record { n = 0; pilots = []; free = [] }) = ap (part_of rules seed) empty ∙ part_of-none rules seed in
    let zero_keys : part.n ≡ 0 = ap keys_in (sym ends ∙ same) in
    omega arith)
    (cases_lt 0 (length records))
  where
    keys_in : Result PartData ℕ → ℕ
    keys_in (Ok p) = p.n
    keys_in (Err e) = 0

-- all partitions together have as many keys as there are records
pub key_count-parts : (rules : Rules) (seed number : ℕ) (lists : List (List Record)) (parts : List PartData) → IsShape rules.shape →
    parts_from rules seed number lists ≡ Ok parts → key_count parts ≡ sum_by length lists
key_count-parts rules seed number [] parts shape ends =
    let none : [] ≡ parts = cc in
    ap key_count (sym none)
key_count-parts rules seed number (records ∷ lists) parts shape ends =
    let first : HasFirst (part_of rules seed records) (parts_from rules seed (number + 1) lists) parts =
    has_first number (part_of rules seed records) (parts_from rules seed (number + 1) lists) parts ends in
    let own : first.part.n ≡ length records = part_of-count rules seed records first.part shape first.first_ends in
    let rest : key_count first.others ≡ sum_by length lists = key_count-parts rules seed (number + 1) lists first.others shape first.more_end in
    ap key_count (sym first.is)
    ∙ omega (arith, sum_by-cons (λ (p : PartData). p.n) first.part first.others, sum_by-cons (length {A = Record}) records lists)

-- the keys before a partition and its own are those before the next
pub key_count-next : (parts : List PartData) (q : ℕ) → q < length parts →
    key_count (take (q + 1) parts) ≡ key_count (take q parts) + (part_at parts q).n
key_count-next parts q within = sum_by_more (λ (p : PartData). p.n) parts q (record { n = 0; pilots = []; free = [] }) within

-- and no more than those before a later one
pub key_count-later : (parts : List PartData) (q later : ℕ) → q < length parts → q < later →
    key_count (take q parts) + (part_at parts q).n ≤ key_count (take later parts)
key_count-later parts q later within before =
    let front : take (q + 1) (take later parts) ≡ take (q + 1) parts = take-take (q + 1) later parts (omega arith) in
    let fewer : key_count (take (q + 1) (take later parts)) ≤ key_count (take later parts) =
    sum_by-take-le (λ (p : PartData). p.n) (take later parts) (q + 1) in
    let same : key_count (take (q + 1) (take later parts)) ≡ key_count (take (q + 1) parts) = ap key_count front in
    omega (arith, key_count-next parts q within)

-- and no more than all
pub key_count-all : (parts : List PartData) (q : ℕ) → q < length parts → key_count (take q parts) + (part_at parts q).n ≤ key_count parts
key_count-all parts q within =
    omega (arith, key_count-next parts q within, sum_by-take-le (λ (p : PartData). p.n) parts (q + 1))
