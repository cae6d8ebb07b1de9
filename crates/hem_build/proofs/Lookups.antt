-- The value of a key, from its partition.
use Rattle.std.proofs.Common.{◌≡◌, ℕ, ◌+◌, ◌<◌, List, [], length, take, Option, Some, None, sym, ap, ◌∙◌, arith}
use Rattle.std.specs.Prelude.{slice_index, slice_index_or, option_map}
use Rattle.std.proofs.lemmas.List.{get_or_default}
use Rattle.pthash.specs.Hash.{first_hash, second_hash}
use Rattle.pthash.specs.Sizes.{partition_of}
use Rattle.build_outcome.specs.Index.{PartData, IndexData}
use Rattle.build_outcome.specs.Values.{part_at, part_value, key_count, value_of}
use Rattle.hem_build.specs.Starts.{IsHeldIndex}

-- the partition of a key in an index
pub record IsPartOf (x : IndexData) (starts key : List ℕ) (a b q : ℕ) (part : PartData) : Type 0 where
  pub held : IsHeldIndex x starts
  pub first : a ≡ first_hash key x.seed
  pub second : b ≡ second_hash key x.seed
  pub number : q ≡ partition_of a b (length x.parts)
  pub within : q < length x.parts
  pub read : part ≡ slice_index_or x.parts q part

-- the partition that is read is the one with that number
part_is : (x : IndexData) (starts key : List ℕ) (a b q : ℕ) (part : PartData) → IsPartOf x starts key a b q part → part ≡ part_at x.parts q
part_is x starts key a b q part of = of.read ∙ get_or_default x.parts q part (record { n = 0; pilots = []; free = [] }) of.within

-- the value of the key is that of its hashes in its partition, behind the keys before
value_there : (x : IndexData) (starts key : List ℕ) (a b q : ℕ) (part : PartData) → IsPartOf x starts key a b q part →
    value_of x key ≡ option_map (λ v. slice_index starts q + v) (part_value x.shape.map x.seed part a b)
unfolding value_of
value_there x starts key a b q part of =
    let at : (h k : ℕ) → Option ℕ = λ h k. let p = partition_of h k (length x.parts) in
    option_map (λ v. key_count (take p x.parts) + v) (part_value x.shape.map x.seed (part_at x.parts p) h k) in
    (λ i. at (sym of.first i) (sym of.second i))
    ∙ ap (λ p. option_map (λ v. key_count (take p x.parts) + v) (part_value x.shape.map x.seed (part_at x.parts p) a b)) (sym of.number)
    ∙ ap (λ p. option_map (λ v. key_count (take q x.parts) + v) (part_value x.shape.map x.seed p a b)) (sym (part_is x starts key a b q part of))
    ∙ ap (λ s. option_map (λ v. s + v) (part_value x.shape.map x.seed part a b)) (sym (of.held.begin.each q of.within))

-- it has a value in its partition
pub value_some : (x : IndexData) (starts key : List ℕ) (a b q start value : ℕ) (part : PartData) (found : Option ℕ) →
    IsPartOf x starts key a b q part →
    start ≡ slice_index_or starts q start → found ≡ part_value x.shape.map x.seed part a b →
    found ≡ Some value → Some (start + value) ≡ value_of x key
value_some x starts key a b q start value part found of begin is some =
    let same : start ≡ slice_index starts q = begin ∙ get_or_default starts q start 0 (omega (arith, of.within, of.held.begin.count)) in
    ap (λ s. Some (s + value)) same
    ∙ sym (value_there x starts key a b q part of ∙ ap (option_map (λ v. slice_index starts q + v)) (sym is ∙ some))

-- it has none
pub value_none : (x : IndexData) (starts key : List ℕ) (a b q : ℕ) (part : PartData) (found : Option ℕ) →
    IsPartOf x starts key a b q part →
    found ≡ part_value x.shape.map x.seed part a b → found ≡ None → None ≡ value_of x key
value_none x starts key a b q part found of is none =
    sym (value_there x starts key a b q part of ∙ ap (option_map (λ v. slice_index starts q + v)) (sym is ∙ none))
