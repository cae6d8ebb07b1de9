-- The partitions that were read and those that come.
use Rattle.std.specs.Prelude.{◌≡◌, ℕ, ◌+◌, ◌<◌, ◌≤◌, List, [], ◌∷◌, ◌++◌, length, drop, All, Option, Result, Ok, Err}
use Rattle.std.proofs.Common.{get_or, refl, sym, ap, ◌∙◌, subst, append_assoc, append-nil, drop-cons, add-one, arith}
use Rattle.std.proofs.lemmas.List.{nil_from_length, length-drop, map-append}
use Rattle.std.proofs.lemmas.List.Elements.{All-nil, All-push}
use Rattle.pthash.specs.Shapes.{ShapeData}
use Rattle.pilot_codecs.specs.declared.code.Encoding.{Encoding}
use Rattle.build_outcome.specs.Index.{PartData}
use Rattle.index_text.specs.declared.fault.IndexFault.{IndexFault}
use Rattle.index_text.specs.Faults.{◌>>=◌, Fails}
use Rattle.index_text.specs.Lists.{partition_at, partitions_at}
use Rattle.index_file.specs.declared.lists.Lists.{Lists}
use Rattle.index_file.specs.Lists.{part_data}
use Rattle.index_file.specs.Held.{parts_data, IsUnder}
use Rattle.index_file.proofs.Faults.{Fails-then}

-- partitions before those that a reading gives
abbrev pub before : List PartData → Result (List PartData × List ℕ) IndexFault → Result (List PartData × List ℕ) IndexFault
before parts (Ok more) = Ok (parts ++ more.0, more.1)
before parts (Err e) = Err e

-- before one and then others
before_more : (parts : List PartData) (part : PartData) (r : Result (List PartData × List ℕ) IndexFault) →
    before parts (r >>= λ others. Ok (part ∷ others.0, others.1)) ≡ before (parts ++ part ∷ []) r
before_more parts part (Ok more) = ap (λ (ps : List PartData). Ok (ps, more.1)) (sym (append_assoc parts (part ∷ []) more.0))
before_more parts part (Err e) = refl

-- the first i partitions were read up to a place
pub record ArePartitions (bytes : List ℕ) (enc : Encoding) (shape : ShapeData) (counts : List ℕ) (at i : ℕ) (parts : List (Option Lists))
    (place : ℕ) : Type 0 where
  pub read : partitions_at (length bytes) enc shape 0 counts (drop at bytes)
      ≡ before (parts_data parts) (partitions_at (length bytes) enc shape i (drop i counts) (drop place bytes))
  pub within : place ≤ length bytes
  pub under : All (IsUnder enc) parts

-- before any partition
pub partitions_first : (bytes : List ℕ) (enc : Encoding) (shape : ShapeData) (counts : List ℕ) (at : ℕ) → at ≤ length bytes →
    ArePartitions bytes enc shape counts at 0 [] at
partitions_first bytes enc shape counts at within = record {
  read = same (partitions_at (length bytes) enc shape 0 counts (drop at bytes));
  within = within;
  under = All-nil (IsUnder enc);
}
  where
    same : (r : Result (List PartData × List ℕ) IndexFault) → r ≡ before [] r
    same (Ok more) = refl
    same (Err e) = refl

-- one partition of those that come
next_partition : (bytes : List ℕ) (enc : Encoding) (shape : ShapeData) (counts : List ℕ) (i place : ℕ) → i < length counts →
    partitions_at (length bytes) enc shape i (drop i counts) (drop place bytes)
    ≡ (partition_at (length bytes) enc shape i (get_or counts i 0) (drop place bytes)
    >>= λ first. partitions_at (length bytes) enc shape (i + 1) (drop (i + 1) counts) first.1 >>= λ others. Ok (first.0 ∷ others.0, others.1))
unfolding partitions_at
next_partition bytes enc shape counts i place within =
    ap (λ (ks : List ℕ). partitions_at (length bytes) enc shape i ks (drop place bytes))
    (drop-cons counts i 0 within ∙ ap (λ (k : ℕ). get_or counts i 0 ∷ drop k counts) (sym (add-one i)))

-- one partition more
pub partitions_more : (bytes : List ℕ) (enc : Encoding) (shape : ShapeData) (counts : List ℕ) (at i : ℕ) (parts : List (Option Lists)) (place : ℕ)
    (lists : Option Lists) (next : ℕ) → i < length counts → ArePartitions bytes enc shape counts at i parts place →
    partition_at (length bytes) enc shape i (get_or counts i 0) (drop place bytes) ≡ Ok (part_data lists, drop next bytes) → next ≤ length bytes →
    IsUnder enc lists → ArePartitions bytes enc shape counts at (i + 1) (parts ++ lists ∷ []) next
partitions_more bytes enc shape counts at i parts place lists next more so_far read within under =
    let rest = partitions_at (length bytes) enc shape (i + 1) (drop (i + 1) counts) (drop next bytes) in
    let step : partitions_at (length bytes) enc shape i (drop i counts) (drop place bytes) ≡
    (rest >>= λ others. Ok (part_data lists ∷ others.0, others.1)) =
    next_partition bytes enc shape counts i place more
    ∙ ap (λ (r : Result (PartData × List ℕ) IndexFault). r >>= λ first. partitions_at (length bytes) enc shape (i + 1) (drop (i + 1) counts) first.1
    >>= λ others. Ok (first.0 ∷ others.0, others.1)) read in
    record {
      read = so_far.read ∙ ap (before (parts_data parts)) step ∙ before_more (parts_data parts) (part_data lists) rest
          ∙ ap (λ (ps : List PartData). before ps rest) (sym (map-append part_data parts (lists ∷ [])));
      within = within;
      under = All-push (IsUnder enc) parts lists so_far.under under;
    }

-- a fault of the next partition is the fault of all
pub partitions_err : (bytes : List ℕ) (enc : Encoding) (shape : ShapeData) (counts : List ℕ) (at i : ℕ) (parts : List (Option Lists)) (place : ℕ)
    (e : IndexFault) → i < length counts → ArePartitions bytes enc shape counts at i parts place →
    Fails e (partition_at (length bytes) enc shape i (get_or counts i 0) (drop place bytes)) →
    Fails e (partitions_at (length bytes) enc shape 0 counts (drop at bytes))
partitions_err bytes enc shape counts at i parts place e more so_far fails =
    subst (Fails e) (sym (so_far.read ∙ ap (before (parts_data parts)) (next_partition bytes enc shape counts i place more)))
    (Fails-then e _ (λ r. before (parts_data parts) (r >>= λ first. partitions_at (length bytes) enc shape (i + 1) (drop (i + 1) counts) first.1
    >>= λ others. Ok (first.0 ∷ others.0, others.1))) (λ d. refl) fails)

-- all partitions
pub partitions_all : (bytes : List ℕ) (enc : Encoding) (shape : ShapeData) (counts : List ℕ) (at i : ℕ) (parts : List (Option Lists)) (place : ℕ) →
    length counts ≤ i → ArePartitions bytes enc shape counts at i parts place →
    partitions_at (length bytes) enc shape 0 counts (drop at bytes) ≡ Ok (parts_data parts, drop place bytes)
unfolding partitions_at
partitions_all bytes enc shape counts at i parts place past so_far =
    let none : drop i counts ≡ [] = nil_from_length (drop i counts) (omega (arith, length-drop i counts)) in
    so_far.read ∙ ap (λ (ks : List ℕ). before (parts_data parts) (partitions_at (length bytes) enc shape i ks (drop place bytes))) none
    ∙ ap (λ (ps : List PartData). Ok (ps, drop place bytes)) (append-nil (parts_data parts))
