-- Reading the partitions, with the first fault that is met.
use Rattle.std.specs.Prelude.{ℕ, ◌+◌, ◌-◌, ◌==◌, List, [], ◌∷◌, length, Result, Ok, if◌then◌else◌}
use Rattle.pthash.specs.declared.TheConstants.{MAX_PILOTS}
use Rattle.pthash.specs.Shapes.{ShapeData}
use Rattle.pthash.specs.Sizes.{table_size_of, bucket_count_of}
use Rattle.elias_fano.specs.Reading.{list_at}
use Rattle.pilot_codecs.specs.declared.code.Encoding.{Encoding}
use Rattle.pilot_codecs.specs.Encoded.{pair_at}
use Rattle.build_outcome.specs.Index.{PartData}
use Rattle.index_text.specs.declared.fault.IndexFault.{IndexFault}
use Rattle.index_text.specs.declared.fault.IndexFault.TheVariants as faults
use Rattle.index_text.specs.Faults.{◌>>=◌, formed, all_below}

-- the pilots of the partition with a number, of so many buckets, and the bytes after them
unfoldable pub pilots_at : ℕ → Encoding → ℕ → ℕ → List ℕ → Result (List ℕ × List ℕ) IndexFault
pilots_at total enc number buckets bytes =
    formed (pair_at enc (total - length bytes) buckets bytes) >>= all_below MAX_PILOTS (λ bucket. faults.Pilot number bucket)

-- the free list of the partition with a number, of n keys and so many positions, and the bytes after it
unfoldable pub free_at : ℕ → ℕ → ℕ → ℕ → List ℕ → Result (List ℕ × List ℕ) IndexFault
free_at total number n size bytes =
    formed (list_at (total - length bytes) (size - n) bytes) >>= all_below n (λ place. faults.Free number place)

-- the partition with a number, of n keys, and the bytes after it; an empty one has nothing
unfoldable pub partition_at : ℕ → Encoding → ShapeData → ℕ → ℕ → List ℕ → Result (PartData × List ℕ) IndexFault
partition_at total enc shape number n bytes =
    if n == 0 then Ok (record { n = 0; pilots = []; free = [] }, bytes) else (do
      pilots ← pilots_at total enc number (bucket_count_of n shape.c) bytes
      free ← free_at total number n (table_size_of n shape.alpha) pilots.1
      Ok (record { n = n; pilots = pilots.0; free = free.0 }, free.1))

-- the partitions from a number on that have so many keys each, and the bytes after them
unfoldable pub partitions_at : ℕ → Encoding → ShapeData → ℕ → List ℕ → List ℕ → Result (List PartData × List ℕ) IndexFault
partitions_at total enc shape number [] bytes = Ok ([], bytes)
partitions_at total enc shape number (n ∷ counts) bytes = do
  first ← partition_at total enc shape number n bytes
  others ← partitions_at total enc shape (number + 1) counts first.1
  Ok (first.0 ∷ others.0, others.1)
