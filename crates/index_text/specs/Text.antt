-- The bytes of an index file.
use Rattle.std.specs.Prelude.{ℕ, ◌≡◌, ◌≤◌, ◌==◌, List, [], ◌∷◌, ◌++◌, length, Option, Some, None, if◌then◌else◌}
use Rattle.std.specs.List.{flat_map}
use Rattle.pthash.specs.declared.Map.{Map}
use Rattle.pthash.specs.declared.Map.TheVariants.{Skewed, Uniform}
use Rattle.pthash.specs.Hash.{hash_of}
use Rattle.elias_fano.specs.Spelling.{number, ef_text}
use Rattle.pilot_codecs.specs.declared.code.Code.{Code}
use Rattle.pilot_codecs.specs.declared.code.Code.TheVariants as codes
use Rattle.pilot_codecs.specs.declared.code.Encoding.{Encoding}
use Rattle.pilot_codecs.specs.Spelling.{pair_text}
use Rattle.build_outcome.specs.Index.{PartData, KeyMarkData, IndexData}
use Rattle.build_outcome.specs.Validity.{IsValidIndex}
use Rattle.index_text.specs.declared.head.HeadFields.{HeadFields}
use Rattle.index_text.specs.declared.head.TheConstants.{MAGIC, UNMARKED, MARKED, MAX_BYTES}

-- the number of a code
abbrev pub code_number : Code → ℕ
code_number codes.Compact = 1
code_number codes.Parted = 2
code_number codes.Dict = 3
code_number codes.EliasFano = 4

-- the number of a back code, 0 where there is none
abbrev pub back_number : Option Code → ℕ
back_number None = 0
back_number (Some code) = code_number code

-- the number of a map
abbrev pub map_number : Map → ℕ
map_number Skewed = 0
map_number Uniform = 1

-- the version: the mark is what the second one has more than the first
abbrev pub version_of : Option KeyMarkData → ℕ
version_of None = UNMARKED
version_of (Some mark) = MARKED

-- the fields of an index under an encoding
abbrev pub fields_of : IndexData → Encoding → HeadFields
fields_of x enc = record {
  version = version_of x.mark;
  front = code_number enc.front;
  back = back_number enc.back;
  spread = map_number x.shape.map;
  seed = x.seed;
  n = x.n;
  alpha = x.shape.alpha;
  c = x.shape.c;
  parts = length x.parts;
}

-- the bytes of the fields
abbrev pub head_text : HeadFields → List ℕ
head_text head =
    MAGIC ++ head.version ∷ head.front ∷ head.back ∷ head.spread ∷ []
    ++ flat_map number (head.seed ∷ head.n ∷ head.alpha ∷ head.c ∷ head.parts ∷ [])

-- the numbers of a mark, if there is one
abbrev pub mark_numbers : Option KeyMarkData → List ℕ
mark_numbers None = []
mark_numbers (Some mark) = mark.sum ∷ mark.xor ∷ []

-- how many keys each partition has
abbrev pub key_counts : List PartData → List ℕ
key_counts [] = []
key_counts (part ∷ parts) = part.n ∷ key_counts parts

-- the pilots and the free list of a partition; an empty one has nothing
unfoldable pub part_text : Encoding → PartData → List ℕ
part_text enc part = if part.n == 0 then [] else pair_text enc part.pilots ++ ef_text part.free

-- the partitions, one after the other
abbrev pub parts_text : Encoding → List PartData → List ℕ
parts_text enc parts = flat_map (part_text enc) parts

-- all bytes but the digest
unfoldable pub body_text : IndexData → Encoding → List ℕ
body_text x enc =
    head_text (fields_of x enc)
    ++ (flat_map number (mark_numbers x.mark) ++ (flat_map number (key_counts x.parts) ++ parts_text enc x.parts))

-- the digest of bytes
abbrev pub digest_of : List ℕ → ℕ
digest_of body = hash_of body 0

-- the bytes and their digest
abbrev pub with_digest : List ℕ → List ℕ
with_digest body = body ++ number (digest_of body)

-- the bytes of an index
abbrev pub index_text : IndexData → Encoding → List ℕ
index_text x enc = with_digest (body_text x enc)

-- bytes are those of a valid index
pub record IsIndex (bytes : List ℕ) (x : IndexData) (enc : Encoding) : Type 0 where
  pub valid : IsValidIndex x
  pub text : bytes ≡ index_text x enc
  pub few_bytes : length bytes ≤ MAX_BYTES
