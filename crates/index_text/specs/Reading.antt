-- Reading an index from its bytes, with the first fault that is met.
use Rattle.std.specs.Prelude.{ℕ, ◌-◌, ◌==◌, List, length, drop, Result, Ok, Err, if◌then◌else◌}
use Rattle.pilot_codecs.specs.declared.code.Encoding.{Encoding}
use Rattle.build_outcome.specs.Index.{IndexData}
use Rattle.index_text.specs.declared.fault.IndexFault.{IndexFault}
use Rattle.index_text.specs.declared.fault.IndexFault.TheVariants as faults
use Rattle.index_text.specs.declared.head.HeadFields.{HeadFields}
use Rattle.index_text.specs.declared.head.TheConstants.{HEAD_LEN}
use Rattle.index_text.specs.Faults.{◌>>=◌}
use Rattle.index_text.specs.Fields.{head_of, sealed_at, map_with, encoding_at, shape_at, mark_at, counts_at}
use Rattle.index_text.specs.Lists.{partitions_at}

-- no bytes are left before the digest
abbrev pub ended : {A : Type 0} → ℕ → List ℕ → A → Result A IndexFault
ended total bytes x = if length bytes == 0 then Ok x else Err (faults.Long (total - length bytes))

-- the index with these fields, whose other bytes before the digest are these
unfoldable pub headed_at : ℕ → HeadFields → List ℕ → Result (IndexData × Encoding) IndexFault
headed_at total head bytes = do
  enc ← encoding_at head
  spread ← map_with head.version head.spread
  shape ← shape_at spread head
  mark ← mark_at head.version bytes
  counts ← counts_at total head.n head.parts mark.1
  parts ← partitions_at total enc shape 0 counts.0 counts.1
  ended total parts.1 (record { seed = head.seed; n = head.n; shape = shape; parts = parts.0; mark = mark.0 }, enc)

-- the index and its encoding, or the first fault
unfoldable pub index_at : List ℕ → Result (IndexData × Encoding) IndexFault
index_at bytes = sealed_at bytes >>= λ body. headed_at (length body) (head_of body) (drop HEAD_LEN body)
