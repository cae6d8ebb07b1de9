-- Indexes that are refused, by what reading answers.
use Rattle.std.proofs.Common.{◌≡◌, ◌<◌, ℕ, true, List, length, Ok, Err, refl, ap}
use Rattle.std.specs.Prelude.{nat_lt}
use Rattle.std.proofs.lemmas.Bool.{lt-ltb}
use Rattle.index_file.specs.Encoded.{EncodedIndex}
use Rattle.index_text.specs.declared.fault.IndexFault.{IndexFault}
use Rattle.index_text.specs.declared.fault.IndexFault.TheVariants as faults
use Rattle.index_text.specs.declared.head.TheConstants.{MAX_BYTES}
use Rattle.index_text.specs.Fields.{sealed_at}
use Rattle.index_text.specs.Reading.{index_at}
use Rattle.pth_top.specs.Query.{faulty_result, index_read, unless_faulty}

-- bytes that are too many
pub index_read-large : (bytes : List ℕ) → MAX_BYTES < length bytes → index_read bytes ≡ Err (faulty_result faults.Large)
unfolding index_at sealed_at
index_read-large bytes large =
    let many : nat_lt MAX_BYTES (length bytes) ≡ true = lt-ltb MAX_BYTES (length bytes) large in
    rw many refl

-- an index that is read
pub index_read-ok : (bytes : List ℕ) (x : EncodedIndex) → index_at bytes ≡ Ok (x.index, x.enc) → index_read bytes ≡ Ok x
index_read-ok bytes x is = ap unless_faulty is

-- a fault of an index
pub index_read-fault : (bytes : List ℕ) (fault : IndexFault) → index_at bytes ≡ Err fault → index_read bytes ≡ Err (faulty_result fault)
index_read-fault bytes fault is = ap unless_faulty is
