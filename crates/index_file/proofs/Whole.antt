-- From what was read to an index.
use Rattle.std.specs.Prelude.{◌≡◌, ℕ, ◌^◌, ◌≤◌, List, length, drop, Ok}
use Rattle.std.proofs.Common.{sym, ap, ◌∙◌, subst, arith}
use Rattle.std.proofs.lemmas.List.{length-append}
use Rattle.pthash.specs.Shapes.{ShapeData, IsShape}
use Rattle.elias_fano.specs.Spelling.{number}
use Rattle.elias_fano.specs.Values.{below_len}
use Rattle.elias_fano.proofs.CallerLemmas.{IsBytes, IsBytes-drop}
use Rattle.pilot_codecs.specs.declared.code.Encoding.{Encoding}
use Rattle.build_outcome.specs.Index.{PartData, IndexData}
use Rattle.index_text.specs.declared.fault.IndexFault.{IndexFault}
use Rattle.index_text.specs.Faults.{Fails}
use Rattle.index_text.specs.Fields.{sealed_at}
use Rattle.index_text.specs.Lists.{partitions_at}
use Rattle.index_text.specs.Reading.{index_at}
use Rattle.index_text.specs.Text.{key_counts, digest_of, IsIndex}
use Rattle.index_text.proofs.CallerLemmas.{done, all_counted, partitions_take, sealed_takes, index_takes, index_only}
use Rattle.index_file.specs.declared.held.Held.{Held}
use Rattle.index_file.specs.Held.{held_data, IsHeld, IsKept}

-- the partitions that were read have the numbers of keys that were read
pub counts_are : (bytes : List ℕ) (enc : Encoding) (shape : ShapeData) (counts given : List ℕ) (parts : List PartData) (at next : ℕ) → IsBytes bytes →
    IsShape shape → given ≡ counts → below_len 67108865 counts ≡ length counts →
    partitions_at (length bytes) enc shape 0 given (drop at bytes) ≡ Ok (parts, drop next bytes) → key_counts parts ≡ counts
counts_are bytes enc shape counts given parts at next fits shaped same small read =
    let these : partitions_at (length bytes) enc shape 0 counts (drop at bytes) ≡ Ok (parts, drop next bytes) =
    ap (λ (ks : List ℕ). partitions_at (length bytes) enc shape 0 ks (drop at bytes)) (sym same) ∙ read in
    (partitions_take (length bytes) enc shape 0 counts (drop at bytes) parts (drop next bytes) shaped (IsBytes-drop at bytes fits)
    (all_counted 67108865 counts small) these).counts_are

-- the bytes before a digest that is theirs are enough for the fields, and few enough
pub sealed_length : (bytes body : List ℕ) → IsBytes bytes → sealed_at bytes ≡ Ok body → (48 ≤ length body) × (length body ≤ 2 ^ 40)
sealed_length bytes body fits read =
    let s = sealed_takes bytes body fits read in (
      omega (arith, s.some_bytes),
      omega (arith, s.few_bytes, ap length s.text, length-append body (number (digest_of body))),
    )

-- what was read is an index
pub read_is : (bytes : List ℕ) (held : Held) → IsBytes bytes → index_at bytes ≡ Ok (held_data held, held.enc) →
    IsIndex bytes (held_data held) held.enc
read_is bytes held fits read = index_takes bytes (held_data held) held.enc fits read

-- it is kept with the length of its bytes
pub kept_is : (bytes : List ℕ) (held : Held) → IsBytes bytes → index_at bytes ≡ Ok (held_data held, held.enc) → IsHeld held →
    IsKept held (length bytes)
kept_is bytes held fits read beside =
    let is = read_is bytes held fits read in record { valid = is.valid; beside = beside; bytes_are = ap length is.text }

-- a fault of bytes that are an index is none
pub no_fault : (bytes : List ℕ) (x : IndexData) (enc : Encoding) (e : IndexFault) → IsIndex bytes x enc → Fails e (index_at bytes) →
    Fails e (done {A = IndexData × Encoding} (x, enc))
no_fault bytes x enc e is fails = subst (Fails e) (index_only bytes x enc is) fails
