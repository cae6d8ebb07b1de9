-- The value of a key from what an index keeps.
use Rattle.std.specs.Prelude.{◌≡◌, ℕ, zero, suc, ◌+◌, ◌*◌, ◌<◌, ◌≤◌}
use Rattle.std.specs.Prelude.{List, [], ◌∷◌, length, take, drop}
use Rattle.std.specs.Prelude.{Option, Some, None, sum_by}
use Rattle.std.proofs.Common.{get_or, refl, sym, ap, ◌∙◌, subst, drop-cons, add-one, arith}
use Rattle.std.proofs.Math.Nat.{mod-lt}
use Rattle.std.proofs.lemmas.List.{length-map, get_or-map}
use Rattle.std.proofs.lemmas.List.Sums.{sum_by-cons}
use Rattle.pthash.specs.declared.Map.{Map}
use Rattle.build_outcome.specs.Index.{PartData}
use Rattle.build_outcome.specs.Values.{part_size, position_value, pair_position, part_at, key_count}
use Rattle.build_outcome.specs.ValidValueLaws.{position_value-lt, key_count-take}
use Rattle.build_outcome.specs.Validity.{IsValidPart, IsValidIndex}
use Rattle.index_text.specs.Text.{key_counts}
use Rattle.index_text.proofs.CallerLemmas.{length-key_counts}
use Rattle.index_file.specs.declared.lists.Lists.{Lists}
use Rattle.index_file.specs.declared.held.Held.{Held}
use Rattle.index_file.specs.Lists.{lists_data, part_data}
use Rattle.index_file.specs.Held.{parts_data, held_data, IsHeld}
use Rattle.index_file.specs.Starts.{starts_from}

-- the sums before the partitions
starts_at : (before : ℕ) (parts : List PartData) (q d : ℕ) → q < length parts →
    get_or (starts_from before (key_counts parts)) q d ≡ before + key_count (take q parts)
unfolding starts_from
starts_at before [] q d within = absurd (omega arith)
starts_at before (part ∷ parts) zero d within = omega arith
starts_at before (part ∷ parts) (suc q) d within =
    omega (arith, starts_at (before + part.n) parts q d (omega arith), sum_by-cons (λ (p : PartData). p.n) part (take q parts))

-- one sum for each partition
length-starts_from : (before : ℕ) (counts : List ℕ) → length (starts_from before counts) ≡ length counts
unfolding starts_from
length-starts_from before [] = refl
length-starts_from before (n ∷ counts) = omega (arith, length-starts_from (before + n) counts)

-- as many sums as partitions are kept
pub starts_count : (held : Held) → IsHeld held → length held.starts.items ≡ length held.parts.items
starts_count held beside =
    let parts = parts_data held.parts.items in
    ap length beside.starts ∙ length-starts_from 0 (key_counts parts) ∙ length-key_counts parts ∙ length-map held.parts.items part_data

-- a sum that is kept
pub start_is : (held : Held) (q d : ℕ) → IsHeld held → q < length held.parts.items →
    get_or held.starts.items q d ≡ key_count (take q (parts_data held.parts.items))
start_is held q d beside within =
    let parts = parts_data held.parts.items in
    ap (λ (ks : List ℕ). get_or ks q d) beside.starts
    ∙ starts_at 0 parts q d (omega (arith, length-map held.parts.items part_data))
    ∙ Rattle.std.proofs.Common.zero-add (key_count (take q parts))

-- a partition that is kept
part_is : (parts : List (Option Lists)) (q : ℕ) (d part : Option Lists) → q < length parts → get_or parts q d ≡ part →
    part_at (parts_data parts) q ≡ part_data part
part_is parts q d part within is = get_or-map part_data parts q d (record { n = 0; pilots = []; free = [] }) within ∙ ap part_data is

-- the position of a pair in a partition with a key is one of its positions
position-lt : (lists : Lists) (spread : Map) (seed a b : ℕ) → pair_position spread seed (lists_data lists) a b < part_size (lists_data lists)
position-lt lists spread seed a b = let some = lists.some in mod-lt _ (omega arith)

-- the value in a partition, behind the partitions before, is below the number of keys
pub value_fits : (held : Held) (q : ℕ) (d : Option Lists) (lists : Lists) (a b : ℕ) → IsValidIndex (held_data held) → q < length held.parts.items →
    get_or held.parts.items q d ≡ Some lists →
    key_count (take q (parts_data held.parts.items)) + position_value lists.n lists.free (pair_position held.shape.map held.seed (lists_data lists) a b)
    < held.n
value_fits held q d lists a b valid within is =
    let parts = parts_data held.parts.items in
    let inside : q < length parts = omega (arith, length-map held.parts.items part_data) in
    let part = part_is held.parts.items q d (Some lists) within is in
    let shape = (held_data held).shape in
    let here : IsValidPart shape (part_at parts q) = valid.parts q (record { n = 0; pilots = []; free = [] }) inside in
    let good : IsValidPart shape (lists_data lists) = subst (IsValidPart shape) part here in
    let low = position_value-lt shape (lists_data lists) (pair_position held.shape.map held.seed (lists_data lists) a b) good
    (position-lt lists held.shape.map held.seed a b) in
    let keys : (part_at parts q).n ≡ lists.n = ap (λ (p : PartData). p.n) part in
    omega (arith, key_count-take parts q inside, valid.counted)

-- a sum over the first partitions and those that come
pub sums_more : (f : PartData → ℕ) (parts : List (Option Lists)) (i total here all : ℕ) → i < length parts →
    here ≡ f (part_data (get_or parts i None)) →
    total + sum_by f (parts_data (drop i parts)) ≡ all → (total + here) + sum_by f (parts_data (drop (i + 1) parts)) ≡ all
sums_more f parts i total here all within is so_far =
    let next : drop i parts ≡ get_or parts i None ∷ drop (i + 1) parts =
    drop-cons parts i None within ∙ ap (λ (k : ℕ). get_or parts i None ∷ drop k parts) (sym (add-one i)) in
    let sums = ap (λ (ps : List (Option Lists)). sum_by f (parts_data ps)) next in
    omega (arith, sum_by-cons f (part_data (get_or parts i None)) (parts_data (drop (i + 1) parts)))

-- all partitions
pub sums_all : (f : PartData → ℕ) (parts : List (Option Lists)) (i total all : ℕ) → length parts ≤ i →
    total + sum_by f (parts_data (drop i parts)) ≡ all → total ≡ all
sums_all f parts i total all past so_far =
    let none : drop i parts ≡ [] = Rattle.std.proofs.lemmas.List.nil_from_length (drop i parts)
    (omega (arith, Rattle.std.proofs.lemmas.List.length-drop i parts)) in
    let sums = ap (λ (ps : List (Option Lists)). sum_by f (parts_data ps)) none in
    omega arith

-- the sums over the first i partitions
pub record AreSums (parts : List (Option Lists)) (i size buckets free : ℕ) : Type 0 where
  pub positions : size + sum_by part_size (parts_data (drop i parts)) ≡ sum_by part_size (parts_data parts)
  pub pilots : buckets + sum_by (λ p. length p.pilots) (parts_data (drop i parts)) ≡ sum_by (λ p. length p.pilots) (parts_data parts)
  pub entries : free + sum_by (λ p. length p.free) (parts_data (drop i parts)) ≡ sum_by (λ p. length p.free) (parts_data parts)
  pub few_positions : size ≤ i * 268435456
  pub few_buckets : buckets ≤ i * 1073741824
  pub few_free : free ≤ i * 268435456
