-- The value of a pair of hashes, and of a key, from what an index keeps.
use Rattle.std.specs.Prelude.{◌≡◌, ℕ, ◌+◌, ◌<◌, ◌==◌, ◌↔◌, Bool, true, false, cond, List, [], length, take}
use Rattle.std.specs.Prelude.{Option, Some, None, option_map}
use Rattle.std.proofs.Common.{get_or, refl, sym, ap, ◌∙◌, arith}
use Rattle.std.proofs.lemmas.Bool.{ne_eqb, eqb-true, eqb-false}
use Rattle.std.proofs.lemmas.List.{length-map, get_or-map}
use Rattle.pthash.specs.Hash.{first_hash, second_hash}
use Rattle.pthash.specs.Sizes.{partition_of}
use Rattle.build_outcome.specs.Index.{PartData, IndexData}
use Rattle.build_outcome.specs.Values.{position_value, pair_position, part_value, part_at, key_count, pair_value, value_of}
use Rattle.index_file.specs.declared.lists.Lists.{Lists}
use Rattle.index_file.specs.declared.held.Held.{Held}
use Rattle.index_file.specs.Encoded.{keys_beside}
use Rattle.index_file.specs.Lists.{lists_data, part_data}
use Rattle.index_file.specs.Held.{parts_data, held_data}

-- the partition of a pair
abbrev pub place_of_pair : Held → ℕ → ℕ → ℕ
place_of_pair held a b = partition_of a b (length held.parts.items)

-- it is the one that the index gives the pair
pair_part : (held : Held) (a b q : ℕ) (d part : Option Lists) → q ≡ place_of_pair held a b → q < length held.parts.items →
    get_or held.parts.items q d ≡ part →
    part_at (parts_data held.parts.items) (partition_of a b (length (parts_data held.parts.items))) ≡ part_data part
pair_part held a b q d part place within is =
    let parts = parts_data held.parts.items in
    let count : length parts ≡ length held.parts.items = length-map held.parts.items part_data in
    ap (part_at parts) (ap (partition_of a b) count ∙ sym place)
    ∙ get_or-map part_data held.parts.items q d (record { n = 0; pilots = []; free = [] }) within ∙ ap part_data is

-- the value of a pair, from its partition
value_in_part : (held : Held) (a b q : ℕ) (d part : Option Lists) → q ≡ place_of_pair held a b → q < length held.parts.items →
    get_or held.parts.items q d ≡ part →
    pair_value (held_data held) a b
    ≡ option_map (λ v. key_count (take q (parts_data held.parts.items)) + v) (part_value held.shape.map held.seed (part_data part) a b)
value_in_part held a b q d part place within is =
    let parts = parts_data held.parts.items in
    let there : partition_of a b (length parts) ≡ q =
    ap (partition_of a b) (length-map held.parts.items part_data) ∙ sym place in
    let here : PartData = part_at parts (partition_of a b (length parts)) in
    ap (λ (k : ℕ). option_map (λ v. key_count (take k parts) + v) (part_value held.shape.map held.seed here a b)) there
    ∙ ap (λ (p : PartData). option_map (λ v. key_count (take q parts) + v) (part_value held.shape.map held.seed p a b))
    (pair_part held a b q d part place within is)

-- a pair whose partition has no key has no value
pub pair_value-none : (held : Held) (a b q : ℕ) (d : Option Lists) → q ≡ place_of_pair held a b → q < length held.parts.items →
    get_or held.parts.items q d ≡ None → None ≡ pair_value (held_data held) a b
pair_value-none held a b q d place within is = sym (value_in_part held a b q d None place within is)

-- a pair whose partition has a key has the value in it, behind the partitions before
pub pair_value-some : (held : Held) (a b q : ℕ) (d : Option Lists) (lists : Lists) → q ≡ place_of_pair held a b →
    q < length held.parts.items → get_or held.parts.items q d ≡ Some lists →
    Some (key_count (take q (parts_data held.parts.items))
    + position_value lists.n lists.free (pair_position held.shape.map held.seed (lists_data lists) a b))
    ≡ pair_value (held_data held) a b
pair_value-some held a b q d lists place within is =
    let parts = parts_data held.parts.items in
    let some = lists.some in
    let other : lists.n ≡ 0 → ⊥ = λ none. omega arith in
    let value = position_value lists.n lists.free (pair_position held.shape.map held.seed (lists_data lists) a b) in
    let here : part_value held.shape.map held.seed (lists_data lists) a b ≡ Some value = ap (λ t. cond t None (Some value)) (ne_eqb lists.n 0 other) in
    sym (value_in_part held a b q d (Some lists) place within is ∙ ap (option_map (λ v. key_count (take q parts) + v)) here)

-- the value of a key is that of its pair of hashes
pub value_of-pair : (x : IndexData) (key : List ℕ) (a b : ℕ) → a ≡ first_hash key x.seed → b ≡ second_hash key x.seed →
    pair_value x a b ≡ value_of x key
unfolding value_of
value_of-pair x key a b first second = λ i. pair_value x (first i) (second i)

-- a pair of hashes has no value exactly where its partition has no key
pub no_pair_value : (x : IndexData) (a b : ℕ) → (pair_value x a b ≡ None) ↔ ((part_at x.parts (partition_of a b (length x.parts))).n ≡ 0)
no_pair_value x a b = by_test (keys == 0) refl
  where
    -- the partition of the pair
    q : ℕ
    q = partition_of a b (length x.parts)

    -- how many keys it has
    keys : ℕ
    keys = (part_at x.parts q).n

    -- the value of the position of the pair in it
    value : ℕ
    value = position_value keys (part_at x.parts q).free (pair_position x.shape.map x.seed (part_at x.parts q) a b)

    -- by whether it has no key
    by_test : (t : Bool) → (keys == 0) ≡ t → (option_map (λ v. key_count (take q x.parts) + v) (cond t None (Some value)) ≡ None) ↔ (keys ≡ 0)
    by_test true is = (λ none. eqb-true keys 0 is, λ none. refl)
    by_test false is = (λ none. absurd cc, λ none. absurd (eqb-false keys 0 is none))

-- a key has no value exactly where its partition has no key
pub no_value : (x : IndexData) (key : List ℕ) → (value_of x key ≡ None) ↔ (keys_beside x key ≡ 0)
unfolding value_of
no_value x key = no_pair_value x (first_hash key x.seed) (second_hash key x.seed)
