-- Pieces of a list of keys, each hashed and cut by partition.
use Rattle.std.specs.Prelude.{◌≡◌, ℕ, ◌+◌, ◌<◌, ◌≤◌, List, [], ◌∷◌, length, take, drop, Result, IfOk}
use Rattle.pthash.specs.declared.Record.{Record}
use Rattle.pthash.specs.Partitions.{partitions_of}
use Rattle.pthash.specs.Records.{records_from}
use Rattle.bucket_map.specs.declared.order.NoMemory.{NoMemory as Want}
use Rattle.hem_build.specs.Marks.{mark_by}
use Rattle.hem_build.specs.declared.cutting.MarkedPiece.{MarkedPiece}
use Rattle.hem_build.specs.declared.cutting.TheConstants.{PIECE_KEYS}

-- the records of the keys of the piece that begins at this place
abbrev pub piece_records : List (List ℕ) → ℕ → ℕ → List Record
piece_records keys seed start = records_from start (take PIECE_KEYS (drop start keys)) seed

-- a piece has the records of its keys, cut by partition, and their mark
pub record IsPieceFrom (keys : List (List ℕ)) (seed parts start : ℕ) (piece : MarkedPiece) : Type 0 where
  pub cut : piece.partitions ≡ partitions_of (piece_records keys seed start) parts
  pub mark : piece.mark ≡ mark_by (piece_records keys seed start)

-- the pieces from this place on are there, but for want of memory
abbrev pub ArePieces : List (List ℕ) → ℕ → ℕ → ℕ → List (Result MarkedPiece Want) → Type 0
ArePieces keys seed parts start [] = length keys ≤ start
ArePieces keys seed parts start (slot ∷ slots) =
    (start < length keys) × IfOk slot (IsPieceFrom keys seed parts start) × ArePieces keys seed parts (start + PIECE_KEYS) slots
