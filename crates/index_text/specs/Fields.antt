-- Reading the fields in front of the partitions, with the first fault that is met.
use Rattle.std.specs.Prelude.{ℕ, ◌+◌, ◌-◌, ◌*◌, Bool, not, ◌&&◌, nat_lt, nat_le, ◌==◌, List, length, take, drop, sum, slice_index}
use Rattle.std.specs.Prelude.{Option, Some, None, Result, Ok, Err, bytes_eq, if◌then◌else◌}
use Rattle.std.specs.Int.{w64, from_le_bytes}
use Rattle.pthash.specs.declared.TheConstants.{MAX_KEYS, MAX_PARTITIONS, MIN_ALPHA, MAX_ALPHA, MIN_C, MAX_C}
use Rattle.pthash.specs.declared.Map.{Map}
use Rattle.pthash.specs.declared.Map.TheVariants.{Skewed, Uniform}
use Rattle.pthash.specs.Shapes.{ShapeData}
use Rattle.elias_fano.specs.Reading.{words_in}
use Rattle.pilot_codecs.specs.declared.code.Code.{Code}
use Rattle.pilot_codecs.specs.declared.code.Code.TheVariants as codes
use Rattle.pilot_codecs.specs.declared.code.Encoding.{Encoding}
use Rattle.build_outcome.specs.Index.{KeyMarkData}
use Rattle.index_text.specs.declared.fault.IndexFault.{IndexFault}
use Rattle.index_text.specs.declared.fault.IndexFault.TheVariants as faults
use Rattle.index_text.specs.declared.head.HeadFields.{HeadFields}
use Rattle.index_text.specs.declared.head.TheConstants.{MAGIC, UNMARKED, MARKED, KEYS_AT, ALPHA_AT, BUCKETS_AT, PARTITIONS_AT}
use Rattle.index_text.specs.declared.head.TheConstants.{MARK_LEN, DIGEST_LEN, MIN_BYTES, MAX_BYTES}
use Rattle.index_text.specs.Faults.{◌>>=◌, all_below}
use Rattle.index_text.specs.Text.{digest_of}

-- the number at a place
abbrev pub word_at : ℕ → List ℕ → ℕ
word_at at bytes = from_le_bytes w64 (take 8 (drop at bytes))

-- the bytes before the digest
abbrev pub body_of : List ℕ → List ℕ
body_of bytes = take (length bytes - DIGEST_LEN) bytes

-- the digest that bytes end with
abbrev pub kept_digest : List ℕ → ℕ
kept_digest bytes = word_at (length bytes - DIGEST_LEN) bytes

-- the fields that bytes begin with
unfoldable pub head_of : List ℕ → HeadFields
head_of bytes = record {
  version = slice_index bytes 4;
  front = slice_index bytes 5;
  back = slice_index bytes 6;
  spread = slice_index bytes 7;
  seed = word_at 8 bytes;
  n = word_at 16 bytes;
  alpha = word_at 24 bytes;
  c = word_at 32 bytes;
  parts = word_at 40 bytes;
}

-- a version that is read
abbrev pub is_version : ℕ → Bool
is_version version = nat_le UNMARKED version && nat_le version MARKED

-- the bytes before the digest, if it is theirs
unfoldable pub sealed_at : List ℕ → Result (List ℕ) IndexFault
sealed_at bytes =
    if nat_lt MAX_BYTES (length bytes) then Err faults.Large
    else (if nat_lt (length bytes) MIN_BYTES then Err faults.Short
    else (if not (bytes_eq (take 4 bytes) MAGIC) then Err faults.Magic
    else (if not (is_version (slice_index bytes 4)) then Err (faults.Version (slice_index bytes 4))
    else (if not (kept_digest bytes == digest_of (body_of bytes)) then Err (faults.Digest (kept_digest bytes) (digest_of (body_of bytes)))
    else Ok (body_of bytes)))))

-- the code with a number
unfoldable pub code_with : ℕ → Result Code IndexFault
code_with k =
    if k == 1 then Ok codes.Compact
    else (if k == 2 then Ok codes.Parted
    else (if k == 3 then Ok codes.Dict
    else (if k == 4 then Ok codes.EliasFano else Err faults.Encoding)))

-- the back code with a number
unfoldable pub back_with : ℕ → Result (Option Code) IndexFault
back_with k = if k == 0 then Ok None else (code_with k >>= λ code. Ok (Some code))

-- the map with a number: the first version has one map
unfoldable pub map_with : ℕ → ℕ → Result Map IndexFault
map_with version k =
    if k == 0 then Ok Skewed else (if (k == 1) && (version == MARKED) then Ok Uniform else Err faults.Encoding)

-- the encoding
unfoldable pub encoding_at : HeadFields → Result Encoding IndexFault
encoding_at head = do
  front ← code_with head.front
  back ← back_with head.back
  Ok (record { front = front; back = back })

-- a number is in its range
abbrev pub is_within : ℕ → ℕ → ℕ → Bool
is_within least most k = nat_le least k && nat_le k most

-- the shape, if it and the numbers of keys and partitions are in their ranges
unfoldable pub shape_at : Map → HeadFields → Result ShapeData IndexFault
shape_at spread head =
    if not (is_within 1 MAX_KEYS head.n) then Err (faults.Field KEYS_AT)
    else (if not (is_within MIN_ALPHA MAX_ALPHA head.alpha) then Err (faults.Field ALPHA_AT)
    else (if not (is_within MIN_C MAX_C head.c) then Err (faults.Field BUCKETS_AT)
    else (if not (is_within 1 MAX_PARTITIONS head.parts) then Err (faults.Field PARTITIONS_AT)
    else Ok (record { alpha = head.alpha; c = head.c; map = spread }))))

-- the mark, if the version has one, and the bytes after it
unfoldable pub mark_at : ℕ → List ℕ → Result (Option KeyMarkData × List ℕ) IndexFault
mark_at version bytes =
    if not (version == MARKED) then Ok (None, bytes)
    else (if nat_lt (length bytes) MARK_LEN then Err faults.Short
    else Ok (Some (record { sum = word_at 0 bytes; xor = word_at 8 bytes }), drop MARK_LEN bytes))

-- numbers that add up to n
abbrev pub add_up : ℕ → (List ℕ × List ℕ) → Result (List ℕ × List ℕ) IndexFault
add_up n list = if sum list.0 == n then Ok list else Err (faults.Count n (sum list.0))

-- how many keys each of so many partitions has, n in all, and the bytes after them; places are counted up to a total
unfoldable pub counts_at : ℕ → ℕ → ℕ → List ℕ → Result (List ℕ × List ℕ) IndexFault
counts_at total n parts bytes =
    if nat_lt (length bytes) (8 * parts) then Err faults.Short
    else (all_below (MAX_KEYS + 1) (λ i. faults.Field (total - length bytes + 8 * i)) (words_in parts bytes, drop (8 * parts) bytes) >>= add_up n)
