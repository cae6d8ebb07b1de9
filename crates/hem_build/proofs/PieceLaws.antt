-- Keys that are hashed and cut piece by piece.
use Rattle.std.proofs.Common.{◌≡◌, ℕ, suc, ◌+◌, ◌-◌, ◌*◌, ◌<◌, ◌≤◌, Bool, List, [], ◌∷◌, ◌++◌, length, take, drop}
use Rattle.std.proofs.Common.{refl, sym, ap, ◌∙◌, subst, arith}
use Rattle.std.specs.Prelude.{◌%◌, ◌^◌, ◌==◌, filter, sum_by, min, bit_xor, slice_index_or, All, Result, IfOk}
use Rattle.std.specs.Int.Bits.{xor_assoc, xor_zero_l}
use Rattle.std.proofs.lemmas.List.{take_all, length-take, length-take-le, length-drop, get_or-take, get_or-drop, ext_get_or}
use Rattle.std.proofs.lemmas.List.Elements.{All-nil, All-cons, All-push, filter-append}
use Rattle.std.proofs.lemmas.List.Sums.{sum_by-append}
use Rattle.std.proofs.Math.Seq.{take-add}
use Rattle.pthash.specs.declared.Record.{Record}
use Rattle.pthash.specs.PartitionLaws.{length-partitions_of, partition_at}
use Rattle.pthash.specs.Partitions.{partitions_of}
use Rattle.pthash.specs.Records.{records_from, records_of}
use Rattle.pthash.specs.RecordLaws.{record_at_place, length-records_from, get_or-records_from, records_from-append}
use Rattle.pthash.specs.Sizes.{partition_of}
use Rattle.bucket_map.specs.declared.order.NoMemory.{NoMemory as Want}
use Rattle.build_outcome.specs.Index.{KeyMarkData}
use Rattle.build_outcome.specs.Mark.{mark_of}
use Rattle.hem_build.proofs.Gathering.{gathered-push, all_gathered-one, all_gathered-all}
use Rattle.hem_build.proofs.Marking.{mark_by-records_of}
use Rattle.hem_build.specs.Gathering.{gathered, all_gathered}
use Rattle.hem_build.specs.Marks.{xor_by, mark_by, added_marks}
use Rattle.hem_build.specs.KeyPieces.{piece_records, IsPieceFrom, ArePieces}
use Rattle.hem_build.specs.Shares.{AreRecordsFrom}
use Rattle.hem_build.specs.declared.cutting.MarkedPiece.{MarkedPiece}
use Rattle.hem_build.specs.declared.cutting.TheConstants.{PIECE_KEYS}

-- a share that is hashed has the records of its piece
pub hashed_piece : (keys : List (List ℕ)) (seed start : ℕ) (before now : List Record) → length before ≡ min PIECE_KEYS (length keys - start) →
    AreRecordsFrom keys seed start before now → now ≡ piece_records keys seed start
hashed_piece keys seed start before now count are =
    let own : List (List ℕ) = take PIECE_KEYS (drop start keys) in
    let own_count : length own ≡ min PIECE_KEYS (length keys - start) =
    length-take PIECE_KEYS (drop start keys) ∙ ap (min PIECE_KEYS) (length-drop start keys) in
    let none : Record = record { a = 0; b = 0; ordinal = 0 } in
    ext_get_or none now (records_from start own seed) (are.count ∙ count ∙ sym (own_count) ∙ sym (length-records_from start own seed))
    (λ i lower.
    let inside : i < length before = omega (arith, are.count) in
    let key : slice_index_or own i [] ≡ slice_index_or keys (start + i) [] =
    get_or-take PIECE_KEYS (drop start keys) i [] (omega (arith, count)) ∙ get_or-drop start keys i [] in
    are.each i none inside
    ∙ sym (get_or-records_from start own seed i none (omega (arith, count, own_count)) ∙ ap (λ (k : List ℕ). record_at_place k seed (start + i)) key))

-- the xor of two lists together
xor_by-append : (xs ys : List Record) → xor_by (xs ++ ys) ≡ bit_xor (xor_by xs) (xor_by ys)
xor_by-append [] ys = sym (xor_zero_l (xor_by ys))
xor_by-append (x ∷ xs) ys = ap (bit_xor x.b) (xor_by-append xs ys) ∙ sym (xor_assoc x.b (xor_by xs) (xor_by ys))

-- the mark of two lists together
mark_by-append : (xs ys : List Record) → mark_by (xs ++ ys) ≡ added_marks (mark_by xs) (mark_by ys)
mark_by-append xs ys =
    let sums : sum_by (λ (r : Record). r.a) (xs ++ ys) % 2 ^ 64
    ≡ (sum_by (λ (r : Record). r.a) xs % 2 ^ 64 + sum_by (λ (r : Record). r.a) ys % 2 ^ 64) % 2 ^ 64 =
    omega (arith, sum_by-append (λ (r : Record). r.a) xs ys) in
    λ k. record { sum = sums k; xor = xor_by-append xs ys k }

-- the first keys have their records in pieces, and their mark
pub record AreCutTo (keys : List (List ℕ)) (seed parts to : ℕ) (pieces : List (List (List Record))) (mark : KeyMarkData) : Type 0 where
  pub all : All (λ piece. length piece ≡ parts) pieces
  pub each : (part : ℕ) → part < parts → gathered pieces part ≡ filter (λ r. partition_of r.a r.b parts == part) (records_from 0 (take to keys) seed)
  pub mark_is : mark ≡ mark_by (records_from 0 (take to keys) seed)

-- no keys
pub cut_none : (keys : List (List ℕ)) (seed parts : ℕ) → AreCutTo keys seed parts 0 [] (record { sum = 0; xor = 0 })
cut_none keys seed parts = record { all = All-nil (λ piece. length piece ≡ parts); each = λ part below. refl; mark_is = refl }

-- the records of the first keys and of one piece more
records_more : (keys : List (List ℕ)) (seed start : ℕ) → start < length keys →
    records_from 0 (take (start + PIECE_KEYS) keys) seed ≡ records_from 0 (take start keys) seed ++ piece_records keys seed start
records_more keys seed start within =
    let own : List (List ℕ) = take PIECE_KEYS (drop start keys) in
    let at : 0 + length (take start keys) ≡ start = omega (arith, length-take-le start keys (omega arith)) in
    ap (λ (ks : List (List ℕ)). records_from 0 ks seed) (take-add start PIECE_KEYS keys)
    ∙ records_from-append 0 (take start keys) own seed
    ∙ ap (λ (p : ℕ). records_from 0 (take start keys) seed ++ records_from p own seed) at

-- one piece more
pub cut_more : (keys : List (List ℕ)) (seed parts start : ℕ) (pieces : List (List (List Record))) (mark : KeyMarkData) (piece : MarkedPiece) →
    start < length keys → IsPieceFrom keys seed parts start piece → AreCutTo keys seed parts start pieces mark →
    AreCutTo keys seed parts (start + PIECE_KEYS) (pieces ++ piece.partitions ∷ []) (added_marks mark piece.mark)
cut_more keys seed parts start pieces mark piece within is so_far =
    let first : List Record = records_from 0 (take start keys) seed in
    let own : List Record = piece_records keys seed start in
    let more : records_from 0 (take (start + PIECE_KEYS) keys) seed ≡ first ++ own = records_more keys seed start within in
    record {
      all = All-push (λ (p : List (List Record)). length p ≡ parts) pieces piece.partitions so_far.all (ap length is.cut ∙ length-partitions_of own parts);
      each = λ part below.
          let test : Record → Bool = λ r. partition_of r.a r.b parts == part in
          let here : slice_index_or piece.partitions part [] ≡ filter test own =
          ap (λ (ps : List (List Record)). slice_index_or ps part []) is.cut ∙ partition_at own parts part below in
          gathered-push pieces piece.partitions part
          ∙ (λ k. so_far.each part below k ++ here k)
          ∙ sym (filter-append test first own)
          ∙ ap (filter test) (sym more);
      mark_is = (λ k. added_marks (so_far.mark_is k) (is.mark k)) ∙ sym (mark_by-append first own) ∙ ap mark_by (sym more);
    }

-- all keys
pub cut_all : (keys : List (List ℕ)) (seed parts to : ℕ) (pieces : List (List (List Record))) (mark : KeyMarkData) → length keys ≤ to →
    AreCutTo keys seed parts to pieces mark → all_gathered pieces parts ≡ partitions_of (records_of keys seed) parts
cut_all keys seed parts to pieces mark past so_far =
    let all : records_from 0 (take to keys) seed ≡ records_of keys seed = ap (λ (ks : List (List ℕ)). records_from 0 ks seed) (take_all to keys past) in
    all_gathered-all pieces (records_of keys seed) parts
    (λ part below. so_far.each part below ∙ ap (filter (λ (r : Record). partition_of r.a r.b parts == part)) all)

-- and their mark
pub marked_to : (keys : List (List ℕ)) (seed parts to : ℕ) (pieces : List (List (List Record))) (mark : KeyMarkData) → length keys ≤ to →
    AreCutTo keys seed parts to pieces mark → mark ≡ mark_of keys seed
marked_to keys seed parts to pieces mark past so_far =
    so_far.mark_is ∙ ap (λ (ks : List (List ℕ)). mark_by (records_from 0 ks seed)) (take_all to keys past) ∙ mark_by-records_of keys seed

-- slots that each have the piece of their number have the pieces
pub pieces_each : (keys : List (List ℕ)) (seed parts number : ℕ) (slots : List (Result MarkedPiece Want)) →
    length keys ≤ (number + length slots) * PIECE_KEYS → (number + length slots) * PIECE_KEYS < length keys + PIECE_KEYS →
    ((i : ℕ) (d : Result MarkedPiece Want) → i < length slots →
    IfOk (slice_index_or slots i d) (IsPieceFrom keys seed parts ((number + i) * PIECE_KEYS))) →
    ArePieces keys seed parts (number * PIECE_KEYS) slots
pieces_each keys seed parts number [] past last each = omega arith
pieces_each keys seed parts number (slot ∷ slots) past last each =
    let here : (number + 0) * PIECE_KEYS ≡ number * PIECE_KEYS = omega arith in
    let next : (number + 1) * PIECE_KEYS ≡ number * PIECE_KEYS + PIECE_KEYS = omega arith in (
      omega arith,
      subst (λ start. IfOk slot (IsPieceFrom keys seed parts start)) here (each 0 slot (omega arith)),
      subst (λ start. ArePieces keys seed parts start slots) next
          (pieces_each keys seed parts (number + 1) slots (omega arith) (omega arith)
          (λ i d within.
          let same : number + suc i ≡ number + 1 + i = omega arith in
          subst (λ k. IfOk (slice_index_or slots i d) (IsPieceFrom keys seed parts (k * PIECE_KEYS))) same (each (suc i) d (omega arith)))),
    )

-- the same of all slots
pub pieces_all : (keys : List (List ℕ)) (seed parts : ℕ) (slots : List (Result MarkedPiece Want)) →
    length keys ≤ length slots * PIECE_KEYS → length slots * PIECE_KEYS < length keys + PIECE_KEYS →
    ((i : ℕ) (d : Result MarkedPiece Want) → i < length slots → IfOk (slice_index_or slots i d) (IsPieceFrom keys seed parts (i * PIECE_KEYS))) →
    ArePieces keys seed parts 0 slots
pieces_all keys seed parts slots past last each =
    pieces_each keys seed parts 0 slots (omega arith) (omega arith)
    (λ i d within.
    let same : i ≡ 0 + i = omega arith in
    subst (λ k. IfOk (slice_index_or slots i d) (IsPieceFrom keys seed parts (k * PIECE_KEYS))) same (each i d within))

-- where no slots are left, all keys have had their pieces
pub pieces_done : (keys : List (List ℕ)) (seed parts start : ℕ) (slots : List (Result MarkedPiece Want)) → length slots ≡ 0 →
    ArePieces keys seed parts start slots → length keys ≤ start
pieces_done keys seed parts start [] none are = are
pieces_done keys seed parts start (slot ∷ slots) none are = absurd (omega arith)

-- records that are cut as one piece have all partitions in it
pub whole_all : (records : List Record) (parts : ℕ) (partitions : List (List Record)) (list : List (List (List Record))) → list ≡ partitions ∷ [] →
    partitions ≡ partitions_of records parts → All (λ piece. length piece ≡ parts) list
whole_all records parts partitions list one cut =
    let own : List (List Record) → Type 0 = λ p. length p ≡ parts in
    subst (λ ps. All own ps) (sym one) (All-cons own partitions [] (ap length cut ∙ length-partitions_of records parts) (All-nil own))

-- and are the partitions of the records
pub whole_gathered : (records : List Record) (parts : ℕ) (partitions : List (List Record)) (list : List (List (List Record))) →
    list ≡ partitions ∷ [] →
    partitions ≡ partitions_of records parts → all_gathered list parts ≡ partitions_of records parts
whole_gathered records parts partitions list one cut =
    ap (λ (ps : List (List (List Record))). all_gathered ps parts) one
    ∙ all_gathered-one parts partitions (ap length cut ∙ length-partitions_of records parts)
    ∙ cut
