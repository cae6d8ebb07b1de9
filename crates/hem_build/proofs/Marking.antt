-- The mark of a list of keys, record by record.
use Rattle.std.proofs.Common.{◌≡◌, ℕ, suc, ◌+◌, ◌<◌, ◌≤◌, List, [], ◌∷◌, length, take, drop, get_or}
use Rattle.std.proofs.Common.{refl, sym, ap, ◌∙◌, arith}
use Rattle.std.specs.Prelude.{◌%◌, ◌^◌, sum_by, bit_xor}
use Rattle.std.specs.Int.Bits.{xor_assoc, xor_zero_r}
use Rattle.std.proofs.lemmas.List.{take_all, drop_all}
use Rattle.std.proofs.lemmas.List.Sums.{sum_by-cons, sum_by_more}
use Rattle.std.proofs.Math.Seq.{drop-cons}
use Rattle.pthash.specs.declared.Record.{Record}
use Rattle.pthash.specs.Hash.{first_hash, second_hash}
use Rattle.pthash.specs.Records.{records_from, records_of}
use Rattle.build_outcome.specs.Mark.{xor_of, mark_of}
use Rattle.hem_build.specs.Marks.{xor_by, mark_by}

-- the sum and the xor of the first records
pub record IsMarking (records : List Record) (i sum xor : ℕ) : Type 0 where
  pub sum_is : sum ≡ sum_by (λ r. r.a) (take i records) % 2 ^ 64
  pub xor_is : xor_by records ≡ bit_xor xor (xor_by (drop i records))

-- of one record more
pub marking_more : (records : List Record) (i sum xor : ℕ) (r : Record) → i < length records → get_or records i r ≡ r →
    IsMarking records i sum xor →
    IsMarking records (i + 1) ((sum + r.a) % 2 ^ 64) (bit_xor xor r.b)
marking_more records i sum xor r within at so_far =
    let more : sum_by (λ (r : Record). r.a) (take (i + 1) records) ≡ sum_by (λ (r : Record). r.a) (take i records) + (get_or records i r).a =
    sum_by_more (λ (r : Record). r.a) records i r within in
    let here : (get_or records i r).a ≡ r.a = ap (λ (r : Record). r.a) at in
    let next : suc i ≡ i + 1 = omega arith in
    record {
      sum_is = omega (arith, so_far.sum_is);
      xor_is = so_far.xor_is
          ∙ ap (λ rs. bit_xor xor (xor_by rs)) (drop-cons records i r within ∙ (λ k. at k ∷ drop (next k) records))
          ∙ sym (xor_assoc xor r.b (xor_by (drop (i + 1) records)));
    }

-- of all records
pub marked_all : (records : List Record) (i sum xor : ℕ) → length records ≤ i → IsMarking records i sum xor →
    record { sum = sum; xor = xor } ≡ mark_by records
marked_all records i sum xor past so_far =
    let all : sum ≡ sum_by (λ (r : Record). r.a) records % 2 ^ 64 =
    so_far.sum_is ∙ ap (λ rs. sum_by (λ (r : Record). r.a) rs % 2 ^ 64) (take_all i records past) in
    let both : xor ≡ xor_by records = sym (so_far.xor_is ∙ ap (λ rs. bit_xor xor (xor_by rs)) (drop_all i records past) ∙ xor_zero_r xor) in
    λ k. record { sum = all k; xor = both k }

-- the sum of the first hashes, over the records
sum_of_records : (keys : List (List ℕ)) (seed place : ℕ) → sum_by (λ r. r.a) (records_from place keys seed) ≡ sum_by (λ key. first_hash key seed) keys
sum_of_records [] seed place = refl
sum_of_records (key ∷ keys) seed place =
    let rest = sum_of_records keys seed (place + 1) in
    let r : Record = record { a = first_hash key seed; b = second_hash key seed; ordinal = place } in
    omega (arith, sum_by-cons (λ (r : Record). r.a) r (records_from (place + 1) keys seed), sum_by-cons (λ (k : List ℕ). first_hash k seed) key keys)

-- the xor of the second hashes, over the records
xor_of_records : (keys : List (List ℕ)) (seed place : ℕ) → xor_by (records_from place keys seed) ≡ xor_of keys seed
xor_of_records [] seed place = refl
xor_of_records (key ∷ keys) seed place = ap (bit_xor (second_hash key seed)) (xor_of_records keys seed (place + 1))

-- the mark of the records is that of the keys
pub mark_by-records_of : (keys : List (List ℕ)) (seed : ℕ) → mark_by (records_of keys seed) ≡ mark_of keys seed
unfolding mark_of
mark_by-records_of keys seed =
    λ k. record { sum = sum_of_records keys seed 0 k % 2 ^ 64; xor = xor_of_records keys seed 0 k }
