-- A valid index gives each key a value below its number of keys, or none.
use Rattle.std.specs.Prelude.{◌≡◌, ℕ, zero, suc, ◌+◌, ◌-◌, ◌<◌, ◌≤◌, ◌==◌}
use Rattle.std.specs.Prelude.{Bool, true, false, cond, List, [], ◌∷◌, length, take}
use Rattle.std.specs.Prelude.{slice_index, slice_index_or, Option, Some, None, option_map, IfSome, All}
use Rattle.std.proofs.Common.{refl, ap, subst, inl, inr, arith}
use Rattle.std.proofs.Math.Nat.{mod-lt}
use Rattle.std.proofs.lemmas.Bool.{cases_lt, eqb-true, eqb-false, lt-ltb, le-ltb}
use Rattle.std.proofs.lemmas.List.Elements.{All-head, All-tail}
use Rattle.std.proofs.lemmas.List.Sums.{sum_by-cons}
use Rattle.pthash.specs.declared.Map.{Map}
use Rattle.pthash.specs.Hash.{first_hash, second_hash}
use Rattle.pthash.specs.HashLaws.{hash_of-lt}
use Rattle.pthash.specs.Shapes.{ShapeData}
use Rattle.pthash.specs.Sizes.{partition_of}
use Rattle.pthash.specs.SizeLaws.{partition_of-lt}
use Rattle.build_outcome.specs.Index.{PartData, IndexData}
use Rattle.build_outcome.specs.Values.{part_size, position_value, pair_position, part_value, part_at, key_count, pair_value, value_of}
use Rattle.build_outcome.specs.Validity.{IsValidPart, IsValidIndex}

-- a position of a partition has a value below its number of keys
pub position_value-lt : (shape : ShapeData) (part : PartData) (p : ℕ) → IsValidPart shape part → p < part_size part →
    position_value part.n part.free p < part.n
position_value-lt shape part p valid within =
    elim (cases_lt p part.n) [
      | inl low ↦ rw (lt-ltb p part.n low) low
      | inr high ↦ rw (le-ltb p part.n high) (valid.free_is_below (p - part.n) 0 (omega arith))
    ]

-- a pair of hashes has a value below the number of keys of its partition, or none
part_value-lt : (shape : ShapeData) (spread : Map) (seed : ℕ) (part : PartData) (a b : ℕ) → IsValidPart shape part →
    IfSome (part_value spread seed part a b) (λ v. v < part.n)
part_value-lt shape spread seed part a b valid = by_keys (part.n == 0) refl
  where
    value : ℕ
    value = position_value part.n part.free (pair_position spread seed part a b)

    by_keys : (t : Bool) → (part.n == 0) ≡ t → IfSome (cond t None (Some value)) (λ v. v < part.n)
    by_keys true none = tt
    by_keys false some =
        let other : part.n ≡ 0 → ⊥ = eqb-false part.n 0 some in
        position_value-lt shape part (pair_position spread seed part a b) valid (mod-lt _ (omega arith))

-- the keys of the partitions before one and those of it are at most all keys
pub key_count-take : (parts : List PartData) (q : ℕ) → q < length parts → key_count (take q parts) + (part_at parts q).n ≤ key_count parts
key_count-take [] q within = absurd (omega arith)
key_count-take (part ∷ parts) zero within = omega (arith, sum_by-cons (λ (p : PartData). p.n) part parts)
key_count-take (part ∷ parts) (suc q) within =
    omega (
      arith,
      sum_by-cons (λ (p : PartData). p.n) part parts,
      sum_by-cons (λ (p : PartData). p.n) part (take q parts),
      key_count-take parts q (omega arith),
    )

-- a value below the number of keys of a partition is below that of all, behind the partitions before
after_earlier : (parts : List PartData) (q : ℕ) (v : Option ℕ) → q < length parts → IfSome v (λ k. k < (part_at parts q).n) →
    IfSome (option_map (λ k. key_count (take q parts) + k) v) (λ k. k < key_count parts)
after_earlier parts q None within below = tt
after_earlier parts q (Some k) within below = omega (arith, key_count-take parts q within)

-- a valid index gives a key a value below its number of keys, or none
pub value_of-lt : (x : IndexData) (key : List ℕ) → IsValidIndex x → IfSome (value_of x key) (λ v. v < x.n)
unfolding value_of
value_of-lt x key valid =
    let a = first_hash key x.seed in
    let b = second_hash key x.seed in
    let q = partition_of a b (length x.parts) in
    let within : q < length x.parts = partition_of-lt a b (length x.parts) (hash_of-lt key x.seed) (hash_of-lt key _) valid.some_part in
    let part = part_at x.parts q in
    let below = part_value-lt x.shape x.shape.map x.seed part a b (valid.parts q (record { n = 0; pilots = []; free = [] }) within) in
    subst (λ n. IfSome (pair_value x a b) (λ v. v < n)) valid.counted
    (after_earlier x.parts q (part_value x.shape.map x.seed part a b) within below)
