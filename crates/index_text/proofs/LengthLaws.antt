-- How long the text of an index is.
use Rattle.std.specs.Prelude.{◌≡◌, ℕ, ◌+◌, ◌*◌, ◌<◌, ◌≤◌, true, false, cond, max, List, [], ◌∷◌}
use Rattle.std.specs.Prelude.{◌++◌, length, All, Option, Some, None}
use Rattle.std.specs.List.{flat_map}
use Rattle.std.specs.Int.{div_ceil, is_power_of_two}
use Rattle.std.proofs.Common.{refl, ap, inl, inr, arith}
use Rattle.std.proofs.Math.Nat.{mul-le-mul_right, mul-le-mul_left}
use Rattle.std.proofs.lemmas.Bool.{cases_lt}
use Rattle.std.proofs.lemmas.Grind.{div_ceil_times}
use Rattle.std.proofs.lemmas.List.{length-append}
use Rattle.std.proofs.lemmas.List.Elements.{All-head, All-tail}
use Rattle.std.proofs.lemmas.List.Sums.{sum_by-cons}
use Rattle.pthash.specs.declared.TheConstants.{MIN_ALPHA, MAX_C}
use Rattle.pthash.specs.Shapes.{ShapeData, IsShape}
use Rattle.pthash.specs.Sizes.{floor_log2, table_size_of, bucket_count_of}
use Rattle.pthash.specs.SizeLaws.{bucket_count_of-le}
use Rattle.elias_fano.specs.Spelling.{number, ef_text}
use Rattle.elias_fano.proofs.CallerLemmas.{length-numbers, length-ef_text}
use Rattle.pilot_codecs.specs.declared.code.Encoding.{Encoding}
use Rattle.pilot_codecs.specs.Spelling.{pair_text}
use Rattle.pilot_codecs.proofs.CallerLemmas.{length-split_text}
use Rattle.build_outcome.specs.Index.{PartData, KeyMarkData, IndexData}
use Rattle.build_outcome.specs.Values.{key_count}
use Rattle.build_outcome.specs.Validity.{IsValidPart, IsValidIndex}
use Rattle.index_text.specs.declared.head.TheConstants.{MAX_BYTES}
use Rattle.index_text.specs.Text.{fields_of, head_text, mark_numbers, key_counts, part_text, parts_text, body_text, digest_of, index_text}
use Rattle.index_text.proofs.PartLists.{FitSplit-pilots}
use Rattle.index_text.proofs.ListLaws.{IsRising-free, IsValidPart-none, part_text-some}

-- a quotient rounded up is at most a factor more than one, if the number is at most that factor of the divisor
div_ceil-le : (x y k : ℕ) → 0 < y → x ≤ k * y → div_ceil x y ≤ k + 1
div_ceil-le x y k some most =
    let q = div_ceil x y in
    let bounds = div_ceil_times x y some in
    elim (cases_lt (k + 1) q) [
      | inl more ↦
          let least : (k + 2) * y ≤ q * y = mul-le-mul_right y (omega arith) in
          absurd (omega (arith, bounds.1))
      | inr few ↦ few
    ]

-- fifteen buckets a key and one more at most
bucket_count_of-near : (n c : ℕ) → c ≤ MAX_C → bucket_count_of n c ≤ 15 * n + 1
unfolding bucket_count_of
bucket_count_of-near n c high =
    let y = 100 * max 1 (floor_log2 n) in
    let keys : c * n ≤ MAX_C * n = mul-le-mul_right n high in
    let wide : (15 * n) * 100 ≤ (15 * n) * y = mul-le-mul_left (15 * n) (omega arith) in
    div_ceil-le (c * n) y (15 * n) (omega arith) (omega arith)

-- two positions a key and two more at most
table_size_of-near : (n alpha : ℕ) → MIN_ALPHA ≤ alpha → table_size_of n alpha ≤ 2 * n + 2
unfolding table_size_of
table_size_of-near n alpha low =
    let size = div_ceil (100 * n) alpha in
    let wide : (2 * n) * MIN_ALPHA ≤ (2 * n) * alpha = mul-le-mul_left (2 * n) low in
    let near : size ≤ 2 * n + 1 = div_ceil-le (100 * n) alpha (2 * n) (omega arith) (omega arith) in
    elim (is_power_of_two size) as (λ b. cond b (size + 1) size ≤ 2 * n + 2) [
      | true ↦ omega arith
      | false ↦ omega arith
    ]

-- a partition with a key takes at most 249 bytes a key and 154 more
some_length : (enc : Encoding) (shape : ShapeData) (part : PartData) → IsShape shape → IsValidPart shape part → 0 < part.n →
    length (part_text enc part) ≤ 249 * part.n + 154
some_length enc shape part shaped valid some =
    let vs = part.pilots in
    let most = bucket_count_of-le part.n shape.c shaped.c_high valid.few_keys in
    let buckets = bucket_count_of-near part.n shape.c shaped.c_high in
    let positions = table_size_of-near part.n shape.alpha shaped.alpha_low in
    let pilots = length-split_text enc.front enc.back vs (FitSplit-pilots enc vs (omega (arith, valid.pilot_count)) valid.pilots_are_below) in
    let free = length-ef_text part.free (IsRising-free shape part shaped valid some) in
    omega (
      arith,
      ap length (part_text-some enc part some),
      length-append (pair_text enc vs) (ef_text part.free),
      pilots,
      free,
      valid.pilot_count,
      valid.size,
      buckets,
      positions,
    )

-- a partition without a key takes none
none_length : (enc : Encoding) (shape : ShapeData) (part : PartData) → IsValidPart shape part → part.n ≡ 0 → length (part_text enc part) ≡ 0
unfolding part_text
none_length enc shape part valid none = ap (λ (p : PartData). length (part_text enc p)) (IsValidPart-none shape part valid none)

-- a valid partition takes at most 249 bytes a key and 154 more
part_length : (enc : Encoding) (shape : ShapeData) (part : PartData) → IsShape shape → IsValidPart shape part →
    length (part_text enc part) ≤ 249 * part.n + 154
part_length enc shape part shaped valid =
    elim (cases_lt 0 part.n) [
      | inl some ↦ some_length enc shape part shaped valid some
      | inr none ↦ omega (arith, none_length enc shape part valid (omega arith))
    ]

-- valid partitions take at most 249 bytes a key and 154 each
parts_length : (enc : Encoding) (shape : ShapeData) (parts : List PartData) → IsShape shape → All (IsValidPart shape) parts →
    length (parts_text enc parts) ≤ 249 * key_count parts + 154 * length parts
parts_length enc shape [] shaped valid = omega arith
parts_length enc shape (part ∷ parts) shaped valid =
    omega (
      arith,
      length-append (part_text enc part) (parts_text enc parts),
      part_length enc shape part shaped (All-head (IsValidPart shape) part parts valid),
      parts_length enc shape parts shaped (All-tail (IsValidPart shape) part parts valid),
      sum_by-cons (λ (p : PartData). p.n) part parts,
    )

-- one number for each partition
pub length-key_counts : (parts : List PartData) → length (key_counts parts) ≡ length parts
length-key_counts [] = refl
length-key_counts (part ∷ parts) = omega (arith, length-key_counts parts)

-- a mark takes at most two numbers
mark_length : (mark : Option KeyMarkData) → length (flat_map number (mark_numbers mark)) ≤ 16
mark_length None = omega arith
mark_length (Some mark) = omega (arith, length-numbers (mark.sum ∷ mark.xor ∷ []))

-- the fields take 48 bytes
pub length-head_text : (x : IndexData) (enc : Encoding) → length (head_text (fields_of x enc)) ≡ 48
length-head_text x enc = refl

-- how long the bytes before the digest are
body_length : (x : IndexData) (enc : Encoding) → length (body_text x enc) ≡ 48
    + (length (flat_map number (mark_numbers x.mark)) + (8 * length x.parts + length (parts_text enc x.parts)))
unfolding body_text
body_length x enc =
    let mark = flat_map number (mark_numbers x.mark) in
    let counts = flat_map number (key_counts x.parts) in
    let lists = parts_text enc x.parts in
    omega (
      arith,
      length-append (head_text (fields_of x enc)) (mark ++ (counts ++ lists)),
      length-append mark (counts ++ lists),
      length-append counts lists,
      length-numbers (key_counts x.parts),
      length-key_counts x.parts,
    )

-- a valid index takes at most 256 bytes a key, 200 a partition and 72 more
pub length-index_text : (x : IndexData) (enc : Encoding) → IsValidIndex x → length (index_text x enc) ≤ 256 * x.n + 200 * length x.parts + 72
length-index_text x enc valid =
    omega (
      arith,
      length-append (body_text x enc) (number (digest_of (body_text x enc))),
      body_length x enc,
      mark_length x.mark,
      parts_length enc x.shape x.parts valid.shape valid.parts,
      valid.counted,
    )

-- so it has few enough bytes
pub index_text-few : (x : IndexData) (enc : Encoding) → IsValidIndex x → length (index_text x enc) ≤ MAX_BYTES
index_text-few x enc valid = omega (arith, length-index_text x enc valid, valid.few_keys, valid.few_parts)

-- and enough for the fields
pub body_text-some : (x : IndexData) (enc : Encoding) → 56 ≤ length (body_text x enc) + 8
body_text-some x enc = omega (arith, body_length x enc)
