-- What is read of a partition, and of all of them, is their text, and their text is read again.
use Rattle.std.specs.Prelude.{◌≡◌, ℕ, ◌+◌, ◌<◌, ◌≤◌, cond, ◌==◌, List, [], ◌∷◌}
use Rattle.std.specs.Prelude.{◌++◌, length, All, Ok}
use Rattle.std.proofs.Common.{refl, sym, ap, ◌∙◌, subst, append_assoc, inl, inr, arith}
use Rattle.std.proofs.lemmas.Bool.{cases_lt, eqb-true, eqb-false, eq-eqb, ne_eqb}
use Rattle.std.proofs.lemmas.List.{nil_from_length}
use Rattle.std.proofs.lemmas.List.Elements.{All-nil, All-cons, All-head, All-tail}
use Rattle.pthash.specs.declared.TheConstants.{MAX_KEYS, MAX_PILOTS, MAX_POSITIONS, MAX_BUCKETS}
use Rattle.pthash.specs.Shapes.{ShapeData, IsShape}
use Rattle.pthash.specs.Sizes.{table_size_of, bucket_count_of}
use Rattle.pthash.specs.SizeLaws.{table_size_of-le, table_size_of-none, le-table_size_of, bucket_count_of-le, bucket_count_of-none}
use Rattle.elias_fano.specs.Spelling.{ef_text, IsRising}
use Rattle.elias_fano.proofs.CallerLemmas.{IsBytes, Takes, Takes-then}
use Rattle.pilot_codecs.specs.declared.code.Encoding.{Encoding}
use Rattle.pilot_codecs.specs.Spelling.{pair_text}
use Rattle.build_outcome.specs.Index.{PartData}
use Rattle.build_outcome.specs.Values.{part_size}
use Rattle.build_outcome.specs.Validity.{IsValidPart}
use Rattle.index_text.specs.Faults.{◌>>=◌}
use Rattle.index_text.specs.Text.{key_counts, part_text, parts_text}
use Rattle.index_text.specs.Lists.{pilots_at, free_at, partition_at, partitions_at}
use Rattle.index_text.proofs.Steps.{bind_ok, either_ok, done, ok_is}
use Rattle.index_text.proofs.Words.{rest_fits}
use Rattle.index_text.proofs.Rising.{IsRising-below}
use Rattle.index_text.proofs.PartLists.{PilotsTaken, pilots_take, pilots_again, FreeTaken, free_takes, free_again}

-- ---- one partition

-- the partition without a key
abbrev pub no_part : PartData
no_part = record { n = 0; pilots = []; free = [] }

-- a valid partition without a key has nothing
pub IsValidPart-none : (shape : ShapeData) (part : PartData) → IsValidPart shape part → part.n ≡ 0 → part ≡ no_part
IsValidPart-none shape part valid none =
    let buckets : length part.pilots ≡ 0 =
    valid.pilot_count ∙ ap (λ (k : ℕ). bucket_count_of k shape.c) none ∙ bucket_count_of-none shape.c in
    let positions : part_size part ≡ 0 = valid.size ∙ ap (λ (k : ℕ). table_size_of k shape.alpha) none ∙ table_size_of-none shape.alpha in
    let pilots : part.pilots ≡ [] = nil_from_length part.pilots buckets in
    let free : part.free ≡ [] = nil_from_length part.free (omega arith) in
    λ i. record { n = none i; pilots = pilots i; free = free i }

-- the text of a partition without a key
part_text-none : (enc : Encoding) (part : PartData) → part.n ≡ 0 → part_text enc part ≡ []
unfolding part_text
part_text-none enc part none = rw (eq-eqb part.n 0 none) refl

-- the text of a partition with a key
pub part_text-some : (enc : Encoding) (part : PartData) → 0 < part.n → part_text enc part ≡ pair_text enc part.pilots ++ ef_text part.free
unfolding part_text
part_text-some enc part some =
    let other : part.n ≡ 0 → ⊥ = λ none. omega arith in
    ap (λ b. cond b [] (pair_text enc part.pilots ++ ef_text part.free)) (ne_eqb part.n 0 other)

-- a partition that was read
pub record PartTaken (enc : Encoding) (shape : ShapeData) (n : ℕ) (bytes : List ℕ) (part : PartData) (rest : List ℕ) : Type 0 where
  pub taken : Takes bytes (part_text enc part) rest
  pub count : part.n ≡ n
  pub valid : IsValidPart shape part

-- the partition without a key takes no byte
empty_takes : (enc : Encoding) (shape : ShapeData) (n : ℕ) (bytes : List ℕ) → IsBytes bytes → n ≡ 0 → PartTaken enc shape n bytes no_part bytes
empty_takes enc shape n bytes fits none = record {
  taken = record { parts = ap (λ (t : List ℕ). t ++ bytes) (sym (part_text-none enc no_part refl)); rest_fits = fits };
  count = sym none;
  valid = record {
    few_keys = omega arith;
    pilot_count = sym (bucket_count_of-none shape.c);
    pilots_are_below = All-nil (λ k. k < MAX_PILOTS);
    size = sym (table_size_of-none shape.alpha);
    free_rises = λ i j d before within. absurd (omega arith);
    free_is_below = All-nil (λ value. value < 0);
  };
}

-- a partition with a key takes its pilots and its free list
some_takes : (enc : Encoding) (shape : ShapeData) (n : ℕ) (bytes pilots after free rest : List ℕ) → IsShape shape → 0 < n → n ≤ MAX_KEYS →
    PilotsTaken enc (bucket_count_of n shape.c) bytes pilots after → FreeTaken n (table_size_of n shape.alpha) after free rest →
    PartTaken enc shape n bytes (record { n = n; pilots = pilots; free = free }) rest
some_takes enc shape n bytes pilots after free rest shaped some few p f =
    let part : PartData = record { n = n; pilots = pilots; free = free } in
    let both = Takes-then bytes (pair_text enc pilots) after (ef_text free) rest p.taken f.taken in
    let holds : n ≤ table_size_of n shape.alpha = le-table_size_of n shape.alpha shaped.alpha_low shaped.alpha_high in
    record {
      taken = subst (λ (t : List ℕ). Takes bytes t rest) (sym (part_text-some enc part some)) both;
      count = refl;
      valid = record {
        few_keys = few;
        pilot_count = p.count;
        pilots_are_below = p.below;
        size = omega (arith, f.count);
        free_rises = f.rises;
        free_is_below = f.below;
      };
    }

-- what is read as a partition is its text
pub partition_takes : (total : ℕ) (enc : Encoding) (shape : ShapeData) (number n : ℕ) (bytes : List ℕ) (part : PartData) (rest : List ℕ) →
    IsShape shape →
    IsBytes bytes → n ≤ MAX_KEYS → partition_at total enc shape number n bytes ≡ Ok (part, rest) → PartTaken enc shape n bytes part rest
unfolding partition_at
partition_takes total enc shape number n bytes part rest shaped fits few e =
    let m = bucket_count_of n shape.c in
    let size = table_size_of n shape.alpha in
    let f = λ (pilots : List ℕ × List ℕ). free_at total number n size pilots.1 >>= λ free.
    done {A = PartData × List ℕ} (record { n = n; pilots = pilots.0; free = free.0 }, free.1) in
    let P : PartData × List ℕ → Type 0 = λ p. PartTaken enc shape n bytes p.0 p.1 in
    elim (either_ok {B = PartData × List ℕ} (n == 0) (no_part, bytes) (pilots_at total enc number m bytes >>= f) (part, rest) e) [
      | inl none ↦ subst P none.1 (empty_takes enc shape n bytes fits (eqb-true n 0 none.0))
      | inr some ↦
          let a = bind_ok (pilots_at total enc number m bytes) f (part, rest) some.1 in
          let b = bind_ok (free_at total number n size a.0.1)
          (λ free. done {A = PartData × List ℕ} (record { n = n; pilots = a.0.0; free = free.0 }, free.1)) (part, rest) a.2 in
          let is = ok_is {A = PartData × List ℕ} (record { n = n; pilots = a.0.0; free = b.0.0 }, b.0.1) (part, rest) b.2 in
          let buckets : m ≤ MAX_BUCKETS = bucket_count_of-le n shape.c shaped.c_high few in
          let positions : size ≤ MAX_POSITIONS = table_size_of-le n shape.alpha shaped.alpha_low few in
          let p = pilots_take total enc number m bytes a.0.0 a.0.1 fits (omega arith) a.1 in
          let q = free_takes total number n size a.0.1 b.0.0 b.0.1 p.taken.rest_fits positions b.1 in
          let other = eqb-false n 0 some.0 in
          subst P is (some_takes enc shape n bytes a.0.0 a.0.1 b.0.0 b.0.1 shaped (omega arith) few p q)
    ]

-- the free list of a valid partition has a spelling
pub IsRising-free : (shape : ShapeData) (part : PartData) → IsShape shape → IsValidPart shape part → 0 < part.n → IsRising part.free
IsRising-free shape part shaped valid some =
    let positions = table_size_of-le part.n shape.alpha shaped.alpha_low valid.few_keys in
    IsRising-below part.free part.n valid.free_rises valid.free_is_below some valid.few_keys (omega (arith, valid.size, positions))

-- a partition without a key is read again
empty_again : (total : ℕ) (enc : Encoding) (shape : ShapeData) (number : ℕ) (part : PartData) (rest : List ℕ) → IsValidPart shape part →
    part.n ≡ 0 →
    partition_at total enc shape number part.n (part_text enc part ++ rest) ≡ Ok (part, rest)
unfolding partition_at
empty_again total enc shape number part rest valid none =
    let bytes = part_text enc part ++ rest in
    let after : bytes ≡ rest = ap (λ (t : List ℕ). t ++ rest) (part_text-none enc part none) in
    rw (eq-eqb part.n 0 none) (λ i. Ok (sym (IsValidPart-none shape part valid none) i, after i))

-- a partition with a key is read again
some_again : (total : ℕ) (enc : Encoding) (shape : ShapeData) (number : ℕ) (part : PartData) (rest : List ℕ) → IsShape shape →
    IsValidPart shape part →
    0 < part.n → partition_at total enc shape number part.n (part_text enc part ++ rest) ≡ Ok (part, rest)
unfolding partition_at
some_again total enc shape number part rest shaped valid some =
    let n = part.n in
    let m = bucket_count_of n shape.c in
    let size = table_size_of n shape.alpha in
    let after = ef_text part.free ++ rest in
    let bytes = pair_text enc part.pilots ++ after in
    let text : part_text enc part ++ rest ≡ bytes =
    ap (λ (t : List ℕ). t ++ rest) (part_text-some enc part some) ∙ append_assoc (pair_text enc part.pilots) (ef_text part.free) rest in
    let other : n ≡ 0 → ⊥ = λ none. omega arith in
    let buckets : m ≤ MAX_BUCKETS = bucket_count_of-le n shape.c shaped.c_high valid.few_keys in
    let pilots : pilots_at total enc number m bytes ≡ Ok (part.pilots, after) =
    ap (λ (k : ℕ). pilots_at total enc number k bytes) (sym valid.pilot_count)
    ∙ pilots_again total enc number part.pilots after (omega (arith, valid.pilot_count)) valid.pilots_are_below in
    let free : free_at total number n size after ≡ Ok (part.free, rest) =
    free_again total number n size part.free rest (IsRising-free shape part shaped valid some) (omega (arith, valid.size)) valid.free_is_below in
    ap (λ (t : List ℕ). partition_at total enc shape number n t) text ∙ rw (ne_eqb n 0 other, pilots, free) refl

-- the text of a valid partition is read again
pub partition_again : (total : ℕ) (enc : Encoding) (shape : ShapeData) (number : ℕ) (part : PartData) (rest : List ℕ) → IsShape shape →
    IsValidPart shape part → partition_at total enc shape number part.n (part_text enc part ++ rest) ≡ Ok (part, rest)
partition_again total enc shape number part rest shaped valid =
    elim (cases_lt 0 part.n) [
      | inl some ↦ some_again total enc shape number part rest shaped valid some
      | inr none ↦ empty_again total enc shape number part rest valid (omega arith)
    ]

-- ---- all partitions

-- partitions that were read
pub record PartsTaken (enc : Encoding) (shape : ShapeData) (counts bytes : List ℕ) (parts : List PartData) (rest : List ℕ) : Type 0 where
  pub taken : Takes bytes (parts_text enc parts) rest
  pub counts_are : key_counts parts ≡ counts
  pub valid : All (IsValidPart shape) parts

-- what is read as partitions is their text
pub partitions_take : (total : ℕ) (enc : Encoding) (shape : ShapeData) (number : ℕ) (counts bytes : List ℕ) (parts : List PartData) (rest : List ℕ) →
    IsShape shape → IsBytes bytes → All (λ n. n < MAX_KEYS + 1) counts → partitions_at total enc shape number counts bytes ≡ Ok (parts, rest) →
    PartsTaken enc shape counts bytes parts rest
unfolding partitions_at
partitions_take total enc shape number [] bytes parts rest shaped fits few e =
    let P : List PartData × List ℕ → Type 0 = λ p. PartsTaken enc shape [] bytes p.0 p.1 in
    subst P (ok_is {A = List PartData × List ℕ} ([], bytes) (parts, rest) e)
    (record { taken = record { parts = refl; rest_fits = fits }; counts_are = refl; valid = All-nil (IsValidPart shape) })
partitions_take total enc shape number (n ∷ counts) bytes parts rest shaped fits few e =
    let P : List PartData × List ℕ → Type 0 = λ p. PartsTaken enc shape (n ∷ counts) bytes p.0 p.1 in
    let f = λ (first : PartData × List ℕ). partitions_at total enc shape (number + 1) counts first.1 >>= λ others.
    done {A = List PartData × List ℕ} (first.0 ∷ others.0, others.1) in
    let a = bind_ok (partition_at total enc shape number n bytes) f (parts, rest) e in
    let b = bind_ok (partitions_at total enc shape (number + 1) counts a.0.1)
    (λ others. done {A = List PartData × List ℕ} (a.0.0 ∷ others.0, others.1)) (parts, rest) a.2 in
    let is = ok_is {A = List PartData × List ℕ} (a.0.0 ∷ b.0.0, b.0.1) (parts, rest) b.2 in
    let small : n ≤ MAX_KEYS = omega (arith, All-head (λ k. k < MAX_KEYS + 1) n counts few) in
    let p = partition_takes total enc shape number n bytes a.0.0 a.0.1 shaped fits small a.1 in
    let q = partitions_take total enc shape (number + 1) counts a.0.1 b.0.0 b.0.1 shaped p.taken.rest_fits
    (All-tail (λ k. k < MAX_KEYS + 1) n counts few) b.1 in
    subst P is (record {
      taken = Takes-then bytes (part_text enc a.0.0) a.0.1 (parts_text enc b.0.0) b.0.1 p.taken q.taken;
      counts_are = λ i. p.count i ∷ q.counts_are i;
      valid = All-cons (IsValidPart shape) a.0.0 b.0.0 p.valid q.valid;
    })

-- the text of valid partitions is read again
pub partitions_again : (total : ℕ) (enc : Encoding) (shape : ShapeData) (number : ℕ) (parts : List PartData) (rest : List ℕ) → IsShape shape →
    All (IsValidPart shape) parts → partitions_at total enc shape number (key_counts parts) (parts_text enc parts ++ rest) ≡ Ok (parts, rest)
unfolding partitions_at
partitions_again total enc shape number [] rest shaped valid = refl
partitions_again total enc shape number (part ∷ parts) rest shaped valid =
    let after = parts_text enc parts ++ rest in
    let text : parts_text enc (part ∷ parts) ++ rest ≡ part_text enc part ++ after = append_assoc (part_text enc part) (parts_text enc parts) rest in
    let first = partition_again total enc shape number part after shaped (All-head (IsValidPart shape) part parts valid) in
    let others = partitions_again total enc shape (number + 1) parts rest shaped (All-tail (IsValidPart shape) part parts valid) in
    ap (λ (t : List ℕ). partitions_at total enc shape number (part.n ∷ key_counts parts) t) text ∙ rw (first, others) refl
