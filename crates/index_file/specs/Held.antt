-- What an index keeps, as plain data.
use Rattle.std.specs.Prelude.{◌≡◌, ℕ, List, length, map, Option, Some, None, All}
use Rattle.bucket_map.specs.ShapeData.{shape_data}
use Rattle.pilot_codecs.specs.declared.code.Encoding.{Encoding}
use Rattle.build_outcome.specs.Index.{PartData, IndexData}
use Rattle.build_outcome.specs.Validity.{IsValidIndex}
use Rattle.index_text.specs.Text.{key_counts, index_text}
use Rattle.index_file.specs.declared.lists.Lists.{Lists}
use Rattle.index_file.specs.declared.held.Held.{Held}
use Rattle.index_file.specs.Lists.{part_data}
use Rattle.index_file.specs.Starts.{starts_from}
use Rattle.index_file.specs.Encoded.{EncodedIndex}

-- the partitions
abbrev pub parts_data : List (Option Lists) → List PartData
parts_data parts = map part_data parts

-- the index
abbrev pub held_data : Held → IndexData
held_data held = record {
  seed = held.seed;
  n = held.n;
  shape = shape_data held.shape;
  parts = parts_data held.parts.items;
  mark = held.mark;
}

-- the index and its encoding
abbrev pub encoded_of : Held → EncodedIndex
encoded_of held = record { index = held_data held; enc = held.enc }

-- the pilots of a partition are in this encoding
abbrev pub IsUnder : Encoding → Option Lists → Type 0
IsUnder enc None = Unit {0}
IsUnder enc (Some lists) = lists.pilots.enc ≡ enc

-- what is kept beside the partitions is theirs
pub record IsHeld (held : Held) : Type 0 where
  pub starts : held.starts.items ≡ starts_from 0 (key_counts (parts_data held.parts.items))
  pub under : All (IsUnder held.enc) held.parts.items

-- a valid index is kept, and its file has so many bytes
pub record IsKept (held : Held) (bytes : ℕ) : Type 0 where
  pub valid : IsValidIndex (held_data held)
  pub beside : IsHeld held
  pub bytes_are : bytes ≡ length (index_text (held_data held) held.enc)
