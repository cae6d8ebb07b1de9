-- The numbers of the records of a partition that was built.
use Rattle.std.proofs.Common.{◌≡◌, ℕ, ◌<◌, List, length, map, true, Some, Ok, sym, ap, ◌∙◌, subst, arith}
use Rattle.std.specs.List.{All}
use Rattle.std.proofs.lemmas.List.{length-map}
use Rattle.std.proofs.lemmas.List.Elements.{All-map}
use Rattle.pthash.specs.declared.Record.{Record}
use Rattle.pthash.specs.Search.{is_distinct}
use Rattle.bucket_map.specs.ShapeData.{shape_data, IsShape-shape_data}
use Rattle.bucket_map.specs.declared.sizes.Shape.{Shape}
use Rattle.build_outcome.specs.AttemptParts.{part_of-count}
use Rattle.build_outcome.specs.Index.{PartData}
use Rattle.build_outcome.specs.OnePart.{one_part}
use Rattle.build_outcome.specs.PartLaws.{pair_number}
use Rattle.part_function.specs.Answers.{IsPartAnswer}

-- what is found is that number
pub some_is : (x y : ℕ) → Some x ≡ Some y → x ≡ y
some_is x y same = cc

-- it has as many keys as they are
key_count : (shape : Shape) (limit seed : ℕ) (records : List Record) (part : PartData) →
    IsPartAnswer (shape_data shape) limit seed records (Ok part) → part.n ≡ length records
key_count shape limit seed records part answer =
    part_of-count (one_part (shape_data shape) limit) seed records part (IsShape-shape_data shape) answer.part

-- so it has one where they are some
pub some_key : (shape : Shape) (limit seed : ℕ) (records : List Record) (part : PartData) →
    IsPartAnswer (shape_data shape) limit seed records (Ok part) → 0 < length records → 0 < part.n
some_key shape limit seed records part answer some = omega (arith, key_count shape limit seed records part answer)

-- there is a number for each
pub numbers-count : (f : Record → ℕ) (records : List Record) (numbers : List ℕ) → numbers ≡ map f records → length numbers ≡ length records
numbers-count f records numbers is = ap length is ∙ length-map records f

-- they are pairwise different
pub numbers-distinct : (shape : Shape) (limit seed : ℕ) (records : List Record) (part : PartData) (numbers : List ℕ) →
    IsPartAnswer (shape_data shape) limit seed records (Ok part) →
    numbers ≡ map (λ r. pair_number shape.map seed part r.a r.b) records → is_distinct numbers ≡ true
numbers-distinct shape limit seed records part numbers answer is = ap is_distinct is ∙ answer.numbers.distinct

-- and below the count of the records
pub numbers-below : (shape : Shape) (limit seed : ℕ) (records : List Record) (part : PartData) (numbers : List ℕ) →
    IsPartAnswer (shape_data shape) limit seed records (Ok part) →
    numbers ≡ map (λ r. pair_number shape.map seed part r.a r.b) records → All (λ number. number < length records) numbers
numbers-below shape limit seed records part numbers answer is =
    subst (λ n. All (λ number. number < n) numbers) (key_count shape limit seed records part answer)
    (subst (λ (ns : List ℕ). All (λ number. number < part.n) ns) (sym is)
    (All-map (λ number. number < part.n) (λ (r : Record). pair_number shape.map seed part r.a r.b) records answer.numbers.below))
