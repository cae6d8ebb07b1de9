-- Partitions built range by range: neighbours that are built apart come to what all come to together.
use Rattle.std.specs.Prelude.{◌≡◌, ℕ, zero, suc, ◌+◌, ◌-◌, ◌<◌, ◌≤◌, List, []}
use Rattle.std.specs.Prelude.{◌∷◌, ◌++◌, length, take, drop, slice_index_or, Result, Ok, Err}
use Rattle.std.proofs.Common.{refl, sym, ap, ◌∙◌, arith}
use Rattle.std.proofs.lemmas.List.{append_assoc, append-nil, take_all, drop-drop, length-drop, length-take-le}
use Rattle.std.proofs.Math.Seq.{drop-cons, take-add}
use Rattle.pthash.specs.declared.Record.{Record}
use Rattle.build_outcome.specs.Attempt.{Rules, part_of, before_parts, parts_from}
use Rattle.build_outcome.specs.Index.{PartData}

-- partitions before others: the first that is stuck decides
abbrev pub joined : Result (List PartData) (ℕ × ℕ) → Result (List PartData) (ℕ × ℕ) → Result (List PartData) (ℕ × ℕ)
joined (Err stuck) more = Err stuck
joined (Ok parts) (Err stuck) = Err stuck
joined (Ok parts) (Ok more) = Ok (parts ++ more)

-- nothing before others
pub joined-nil : (more : Result (List PartData) (ℕ × ℕ)) → more ≡ joined (Ok []) more
joined-nil (Ok more) = refl
joined-nil (Err stuck) = refl

-- and nothing after them
pub joined-done : (parts : List PartData) → joined (Ok parts) (Ok []) ≡ Ok parts
joined-done parts = ap Ok (append-nil parts)

-- three in turn
pub joined_assoc : (first second third : Result (List PartData) (ℕ × ℕ)) → joined (joined first second) third ≡ joined first (joined second third)
joined_assoc (Err stuck) second third = refl
joined_assoc (Ok parts) (Err stuck) third = refl
joined_assoc (Ok parts) (Ok more) (Err stuck) = refl
joined_assoc (Ok parts) (Ok more) (Ok others) = ap Ok (append_assoc parts more others)

-- one partition before others that are joined
before_joined : (number : ℕ) (first : Result PartData ℕ) (second third : Result (List PartData) (ℕ × ℕ)) →
    before_parts number first (joined second third) ≡ joined (before_parts number first second) third
before_joined number (Err bucket) second third = refl
before_joined number (Ok part) (Err stuck) third = refl
before_joined number (Ok part) (Ok more) (Err stuck) = refl
before_joined number (Ok part) (Ok more) (Ok others) = refl

-- the partitions of two lists one after the other
pub parts_from-append : (rules : Rules) (seed number : ℕ) (xs ys : List (List Record)) →
    parts_from rules seed number (xs ++ ys) ≡ joined (parts_from rules seed number xs) (parts_from rules seed (number + length xs) ys)
parts_from-append rules seed number [] ys =
    let same : number ≡ number + 0 = omega arith in
    ap (λ n. parts_from rules seed n ys) same ∙ joined-nil (parts_from rules seed (number + 0) ys)
parts_from-append rules seed number (x ∷ xs) ys =
    let same : number + 1 + length xs ≡ number + suc (length xs) = omega arith in
    ap (before_parts number (part_of rules seed x)) (parts_from-append rules seed (number + 1) xs ys)
    ∙ before_joined number (part_of rules seed x) (parts_from rules seed (number + 1) xs) (parts_from rules seed (number + 1 + length xs) ys)
    ∙ ap (λ n. joined (before_parts number (part_of rules seed x) (parts_from rules seed (number + 1) xs)) (parts_from rules seed n ys)) same

-- the partitions from one number up to another
abbrev pub parts_between : Rules → ℕ → List (List Record) → ℕ → ℕ → Result (List PartData) (ℕ × ℕ)
parts_between rules seed lists from to = parts_from rules seed from (take (to - from) (drop from lists))

-- all of them
pub parts_between-all : (rules : Rules) (seed : ℕ) (lists : List (List Record)) →
    parts_between rules seed lists 0 (length lists) ≡ parts_from rules seed 0 lists
parts_between-all rules seed lists =
    ap (parts_from rules seed 0) (take_all (length lists - 0) lists (omega arith))

-- none
pub parts_between-none : (rules : Rules) (seed : ℕ) (lists : List (List Record)) (from to : ℕ) → to ≤ from →
    parts_between rules seed lists from to ≡ Ok []
parts_between-none rules seed lists from to past =
    let none : to - from ≡ 0 = omega arith in
    ap (λ n. parts_from rules seed from (take n (drop from lists))) none

-- the first and the others
pub parts_between-cons : (rules : Rules) (seed : ℕ) (lists : List (List Record)) (from to : ℕ) → from < to → to ≤ length lists →
    parts_between rules seed lists from to
    ≡ before_parts from (part_of rules seed (slice_index_or lists from [])) (parts_between rules seed lists (from + 1) to)
parts_between-cons rules seed lists from to some within =
    let next : suc from ≡ from + 1 = omega arith in
    let count : to - from ≡ suc (to - (from + 1)) = omega arith in
    ap (λ n. parts_from rules seed from (take n (drop from lists))) count
    ∙ ap (λ rs. parts_from rules seed from (take (suc (to - (from + 1))) rs)) (drop-cons lists from [] (omega arith))
    ∙ ap (λ k. before_parts from (part_of rules seed (slice_index_or lists from []))
    (parts_from rules seed (from + 1) (take (to - (from + 1)) (drop k lists)))) next

-- two ranges one after the other
pub parts_between-joined : (rules : Rules) (seed : ℕ) (lists : List (List Record)) (from middle to : ℕ) → from ≤ middle → middle ≤ to →
    to ≤ length lists →
    parts_between rules seed lists from to ≡ joined (parts_between rules seed lists from middle) (parts_between rules seed lists middle to)
parts_between-joined rules seed lists from middle to first second within =
    let rest : List (List Record) = drop from lists in
    let count : length rest ≡ length lists - from = length-drop from lists in
    let front : List (List Record) = take (middle - from) rest in
    let front_count : length front ≡ middle - from = length-take-le (middle - from) rest (omega arith) in
    let back : take (to - middle) (drop (middle - from) rest) ≡ take (to - middle) (drop middle lists) =
    (let at : from + (middle - from) ≡ middle = omega arith in
    ap (take (to - middle)) (drop-drop (middle - from) from lists ∙ ap (λ k. drop k lists) at)) in
    let cut : take (to - from) rest ≡ front ++ take (to - middle) (drop (middle - from) rest) =
    (let sum : to - from ≡ (middle - from) + (to - middle) = omega arith in
    ap (λ n. take n rest) sum ∙ take-add (middle - from) (to - middle) rest) in
    let number : from + length front ≡ middle = omega arith in
    ap (parts_from rules seed from) cut
    ∙ parts_from-append rules seed from front (take (to - middle) (drop (middle - from) rest))
    ∙ ap (λ rs. joined (parts_from rules seed from front) (parts_from rules seed (from + length front) rs)) back
    ∙ ap (λ n. joined (parts_from rules seed from front) (parts_from rules seed n (take (to - middle) (drop middle lists)))) number
