-- What pieces of a list have of each partition.
use Rattle.std.proofs.Common.{◌≡◌, ℕ, ◌+◌, ◌<◌, ◌≤◌, List, [], ◌∷◌, ◌++◌, length, take, get_or, sym, ap, ◌∙◌, arith}
use Rattle.std.specs.Prelude.{filter, slice_index_or, ◌==◌, All}
use Rattle.std.proofs.lemmas.List.{append_assoc, append-nil, length-map, get_or-map, ext_get_or, take_more}
use Rattle.pthash.specs.declared.Record.{Record}
use Rattle.pthash.specs.Order.{numbers_below}
use Rattle.pthash.specs.OrderLaws.{length-numbers_below, get_or-numbers_below}
use Rattle.pthash.specs.PartitionLaws.{length-partitions_of, partition_at}
use Rattle.pthash.specs.Partitions.{partitions_of}
use Rattle.pthash.specs.Sizes.{partition_of}
use Rattle.hem_build.specs.Gathering.{gathered, all_gathered}

-- one piece more
pub gathered-push : (pieces : List (List (List Record))) (piece : List (List Record)) (part : ℕ) →
    gathered (pieces ++ piece ∷ []) part ≡ gathered pieces part ++ slice_index_or piece part []
gathered-push [] piece part = append-nil (slice_index_or piece part [])
gathered-push (first ∷ pieces) piece part =
    ap (λ (rs : List Record). slice_index_or first part [] ++ rs) (gathered-push pieces piece part)
    ∙ sym (append_assoc (slice_index_or first part []) (gathered pieces part) (slice_index_or piece part []))

-- there are as many partitions as are asked for
pub length-all_gathered : (pieces : List (List (List Record))) (parts : ℕ) → length (all_gathered pieces parts) ≡ parts
length-all_gathered pieces parts = length-map (numbers_below parts) (gathered pieces) ∙ length-numbers_below parts

-- each has what the pieces have of it
pub gathered_at : (pieces : List (List (List Record))) (parts part : ℕ) → part < parts →
    slice_index_or (all_gathered pieces parts) part [] ≡ gathered pieces part
gathered_at pieces parts part below =
    get_or-map (gathered pieces) (numbers_below parts) part 0 [] (omega (arith, length-numbers_below parts))
    ∙ ap (gathered pieces) (get_or-numbers_below parts part below)

-- one piece has its own partitions
pub all_gathered-one : (parts : ℕ) (piece : List (List Record)) → length piece ≡ parts → all_gathered (piece ∷ []) parts ≡ piece
all_gathered-one parts piece count =
    ext_get_or [] (all_gathered (piece ∷ []) parts) piece (length-all_gathered (piece ∷ []) parts ∙ sym count)
    (λ i within. gathered_at (piece ∷ []) parts i (omega (arith, length-all_gathered (piece ∷ []) parts)) ∙ append-nil (slice_index_or piece i []))

-- where the pieces have of each partition what the list has, they have its partitions
pub all_gathered-all : (pieces : List (List (List Record))) (records : List Record) (parts : ℕ) →
    ((part : ℕ) → part < parts → gathered pieces part ≡ filter (λ r. partition_of r.a r.b parts == part) records) →
    all_gathered pieces parts ≡ partitions_of records parts
all_gathered-all pieces records parts each =
    ext_get_or [] (all_gathered pieces parts) (partitions_of records parts)
    (length-all_gathered pieces parts ∙ sym (length-partitions_of records parts))
    (λ i within.
    let below : i < parts = omega (arith, length-all_gathered pieces parts) in
    gathered_at pieces parts i below ∙ each i below ∙ sym (partition_at records parts i below))

-- the first pieces and one more
pub gathered_more : (pieces : List (List (List Record))) (i part : ℕ) (piece : List (List Record)) →
    i < length pieces → get_or pieces i piece ≡ piece →
    gathered (take (i + 1) pieces) part ≡ gathered (take i pieces) part ++ slice_index_or piece part []
gathered_more pieces i part piece within at =
    ap (λ (ps : List (List (List Record))). gathered ps part) (take_more pieces i piece within)
    ∙ gathered-push (take i pieces) (get_or pieces i piece) part
    ∙ ap (λ (p : List (List Record)). gathered (take i pieces) part ++ slice_index_or p part []) at

-- each piece has a partition that the whole has
pub held_in_each : (pieces : List (List (List Record))) (parts part : ℕ) (now : List (List Record)) → All (λ piece. length piece ≡ parts) pieces →
    all_gathered pieces parts ≡ now → part < length now → All (λ piece. part < length piece) pieces
held_in_each pieces parts part now all view within k d inside =
    omega (arith, all k d inside, ap length view, length-all_gathered pieces parts)

-- and as many as the whole
pub as_many_in_each : (pieces : List (List (List Record))) (parts count : ℕ) (now : List (List Record)) → All (λ piece. length piece ≡ parts) pieces →
    all_gathered pieces parts ≡ now → count ≡ length now → All (λ piece. count ≤ length piece) pieces
as_many_in_each pieces parts count now all view is k d inside =
    omega (arith, all k d inside, ap length view, length-all_gathered pieces parts)

-- what the pieces have of a partition is what the whole has
pub gathered_of : (pieces : List (List (List Record))) (parts part : ℕ) (now : List (List Record)) → all_gathered pieces parts ≡ now →
    part < length now → gathered pieces part ≡ slice_index_or now part []
gathered_of pieces parts part now view within =
    sym (gathered_at pieces parts part (omega (arith, ap length view, length-all_gathered pieces parts)))
    ∙ ap (λ (ps : List (List Record)). slice_index_or ps part []) view

-- a piece alone is the whole
pub only_piece : (pieces : List (List (List Record))) (parts : ℕ) (now piece : List (List Record)) → length pieces ≡ 1 →
    All (λ piece. length piece ≡ parts) pieces → all_gathered pieces parts ≡ now → get_or pieces 0 piece ≡ piece → piece ≡ now
only_piece [] parts now piece count all view at = absurd (omega arith)
only_piece (one ∷ []) parts now piece count all view at = sym at ∙ sym (all_gathered-one parts one (all 0 one (omega arith))) ∙ view
only_piece (one ∷ next ∷ more) parts now piece count all view at = absurd (omega arith)
