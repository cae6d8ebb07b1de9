-- What is read of the fields is their text, and their text is read again.
use Rattle.std.specs.Prelude.{◌≡◌, ℕ, ◌^◌, ◌<◌, ◌≤◌, cond, not, ◌&&◌, ◌==◌}
use Rattle.std.specs.Prelude.{List, [], ◌∷◌, ◌++◌, length, take, drop}
use Rattle.std.specs.Prelude.{◌⊎◌, slice_index, Option, Some, None, Result, Ok, Err}
use Rattle.std.specs.List.{flat_map}
use Rattle.std.proofs.Common.{refl, sym, ap, ◌∙◌, subst, inl, inr, arith, drop-cons}
use Rattle.std.proofs.lemmas.Bool.{eqb-true, eq-eqb, and_parts}
use Rattle.std.proofs.lemmas.List.{take-append-drop}
use Rattle.pthash.specs.declared.TheConstants.{MAX_KEYS, MAX_PARTITIONS, MIN_ALPHA, MAX_ALPHA, MIN_C, MAX_C}
use Rattle.pthash.specs.declared.Map.{Map}
use Rattle.pthash.specs.declared.Map.TheVariants.{Skewed, Uniform}
use Rattle.pthash.specs.Shapes.{ShapeData, IsShape}
use Rattle.elias_fano.specs.Spelling.{number}
use Rattle.elias_fano.proofs.CallerLemmas.{IsBytes}
use Rattle.pilot_codecs.specs.declared.code.Code.{Code}
use Rattle.pilot_codecs.specs.declared.code.Code.TheVariants as codes
use Rattle.pilot_codecs.specs.declared.code.Encoding.{Encoding}
use Rattle.index_text.specs.declared.fault.IndexFault.{IndexFault}
use Rattle.index_text.specs.declared.fault.IndexFault.TheVariants as faults
use Rattle.index_text.specs.declared.head.HeadFields.{HeadFields}
use Rattle.index_text.specs.declared.head.TheConstants.{MAGIC, MARKED, KEYS_AT, ALPHA_AT, BUCKETS_AT, PARTITIONS_AT}
use Rattle.index_text.specs.Faults.{◌>>=◌}
use Rattle.index_text.specs.Text.{code_number, back_number, map_number, head_text}
use Rattle.index_text.specs.Fields.{word_at, head_of}
use Rattle.index_text.specs.Fields.{code_with, back_with, map_with, encoding_at, is_within, shape_at}
use Rattle.index_text.proofs.Steps.{bind_ok, guard_ok, last_ok, either_ok, done, ok_is, is_within-ok, is_within-again}
use Rattle.index_text.proofs.Words.{word_text, word_at-lt, word_again, word_rest}

-- ---- the fields as they stand

-- the fields have 64 bits
pub record AreFields (head : HeadFields) : Type 0 where
  pub seed : head.seed < 2 ^ 64
  pub n : head.n < 2 ^ 64
  pub alpha : head.alpha < 2 ^ 64
  pub c : head.c < 2 ^ 64
  pub parts : head.parts < 2 ^ 64

-- the five numbers from place 8 on
numbers_text : (bytes : List ℕ) → IsBytes bytes → 48 ≤ length bytes →
    drop 8 bytes ≡
    flat_map number (word_at 8 bytes ∷ word_at 16 bytes ∷ word_at 24 bytes ∷ word_at 32 bytes ∷ word_at 40 bytes ∷ []) ++ drop 48 bytes
numbers_text bytes fits some =
    word_text 8 bytes fits (omega arith)
    ∙ ap (λ (t : List ℕ). number (word_at 8 bytes) ++ t) (word_text 16 bytes fits (omega arith))
    ∙ ap (λ (t : List ℕ). number (word_at 8 bytes) ++ (number (word_at 16 bytes) ++ t)) (word_text 24 bytes fits (omega arith))
    ∙ ap (λ (t : List ℕ). number (word_at 8 bytes) ++ (number (word_at 16 bytes) ++ (number (word_at 24 bytes) ++ t)))
    (word_text 32 bytes fits (omega arith))
    ∙ ap (λ (t : List ℕ). number (word_at 8 bytes) ++ (number (word_at 16 bytes) ++ (number (word_at 24 bytes) ++ (number (word_at 32 bytes) ++ t))))
    (word_text 40 bytes fits (omega arith))

-- the bytes from place 4 on
bytes_text : (bytes : List ℕ) → 8 ≤ length bytes →
    drop 4 bytes ≡ slice_index bytes 4 ∷ slice_index bytes 5 ∷ slice_index bytes 6 ∷ slice_index bytes 7 ∷ drop 8 bytes
bytes_text bytes some =
    drop-cons bytes 4 0 (omega arith)
    ∙ ap (λ (t : List ℕ). slice_index bytes 4 ∷ t) (drop-cons bytes 5 0 (omega arith))
    ∙ ap (λ (t : List ℕ). slice_index bytes 4 ∷ slice_index bytes 5 ∷ t) (drop-cons bytes 6 0 (omega arith))
    ∙ ap (λ (t : List ℕ). slice_index bytes 4 ∷ slice_index bytes 5 ∷ slice_index bytes 6 ∷ t) (drop-cons bytes 7 0 (omega arith))

-- bytes begin with their fields
pub head_takes : (bytes : List ℕ) → IsBytes bytes → 48 ≤ length bytes → take 4 bytes ≡ MAGIC →
    (bytes ≡ head_text (head_of bytes) ++ drop 48 bytes) × AreFields (head_of bytes)
unfolding head_of
head_takes bytes fits some magic =
    let text : bytes ≡ MAGIC ++ drop 4 bytes = sym (take-append-drop 4 bytes) ∙ ap (λ (t : List ℕ). t ++ drop 4 bytes) magic in (
      text ∙ ap (λ (t : List ℕ). MAGIC ++ t) (bytes_text bytes (omega arith)
          ∙ ap (λ (t : List ℕ). slice_index bytes 4 ∷ slice_index bytes 5 ∷ slice_index bytes 6 ∷ slice_index bytes 7 ∷ t)
          (numbers_text bytes fits some)),
      record {
        seed = word_at-lt 8 bytes fits;
        n = word_at-lt 16 bytes fits;
        alpha = word_at-lt 24 bytes fits;
        c = word_at-lt 32 bytes fits;
        parts = word_at-lt 40 bytes fits;
      },
    )

-- the fields that are written are read there, and what follows them
pub head_again : (head : HeadFields) (rest : List ℕ) → AreFields head →
    (head_of (head_text head ++ rest) ≡ head) × (drop 48 (head_text head ++ rest) ≡ rest)
unfolding head_of
head_again head rest fit =
    let bytes = head_text head ++ rest in
    let r4 = number head.parts ++ rest in
    let r3 = number head.c ++ r4 in
    let r2 = number head.alpha ++ r3 in
    let r1 = number head.n ++ r2 in
    let t0 : drop 8 bytes ≡ number head.seed ++ r1 = refl in
    let t1 : drop 16 bytes ≡ r1 = word_rest 8 bytes head.seed r1 t0 in
    let t2 : drop 24 bytes ≡ r2 = word_rest 16 bytes head.n r2 t1 in
    let t3 : drop 32 bytes ≡ r3 = word_rest 24 bytes head.alpha r3 t2 in
    let t4 : drop 40 bytes ≡ r4 = word_rest 32 bytes head.c r4 t3 in
    let seed = word_again 8 bytes head.seed r1 t0 fit.seed in
    let n = word_again 16 bytes head.n r2 t1 fit.n in
    let alpha = word_again 24 bytes head.alpha r3 t2 fit.alpha in
    let c = word_again 32 bytes head.c r4 t3 fit.c in
    let parts = word_again 40 bytes head.parts rest t4 fit.parts in (
      (λ i. record {
        version = head.version;
        front = head.front;
        back = head.back;
        spread = head.spread;
        seed = seed i;
        n = n i;
        alpha = alpha i;
        c = c i;
        parts = parts i;
      }),
      word_rest 40 bytes head.parts rest t4,
    )

-- ---- codes and maps

-- a code that was read has that number
code_takes : (k : ℕ) (code : Code) → code_with k ≡ Ok code → code_number code ≡ k
unfolding code_with
code_takes k code e =
    let four : Result Code IndexFault = cond (k == 4) (Ok codes.EliasFano) (Err faults.Encoding) in
    let three : Result Code IndexFault = cond (k == 3) (Ok codes.Dict) four in
    let two : Result Code IndexFault = cond (k == 2) (Ok codes.Parted) three in
    elim (either_ok {B = Code} (k == 1) codes.Compact two code e) [
      | inl a ↦ ap code_number (sym a.1) ∙ sym (eqb-true k 1 a.0)
      | inr b ↦ elim (either_ok {B = Code} (k == 2) codes.Parted three code b.1) [
        | inl a ↦ ap code_number (sym a.1) ∙ sym (eqb-true k 2 a.0)
        | inr c ↦ elim (either_ok {B = Code} (k == 3) codes.Dict four code c.1) [
          | inl a ↦ ap code_number (sym a.1) ∙ sym (eqb-true k 3 a.0)
          | inr d ↦
              let last = last_ok {B = Code} (k == 4) faults.Encoding codes.EliasFano code d.1 in
              ap code_number (sym last.1) ∙ sym (eqb-true k 4 last.0)
        ]
      ]
    ]

-- the number of a code is read as that code
code_again : (code : Code) → code_with (code_number code) ≡ Ok code
unfolding code_with
code_again codes.Compact = refl
code_again codes.Parted = refl
code_again codes.Dict = refl
code_again codes.EliasFano = refl

-- a back code that was read has that number
back_takes : (k : ℕ) (back : Option Code) → back_with k ≡ Ok back → back_number back ≡ k
unfolding back_with
back_takes k back e =
    elim (either_ok {B = Option Code} (k == 0) None (code_with k >>= λ code. Ok (Some code)) back e) [
      | inl a ↦ ap back_number (sym a.1) ∙ sym (eqb-true k 0 a.0)
      | inr b ↦
          let c = bind_ok (code_with k) (λ code. done (Some code)) back b.1 in
          ap back_number (sym (ok_is (Some c.0) back c.2)) ∙ code_takes k c.0 c.1
    ]

-- the number of a back code is read as that back code
back_again : (back : Option Code) → back_with (back_number back) ≡ Ok back
unfolding back_with
back_again None = refl
back_again (Some codes.Compact) = ap (λ r. r >>= λ code. Ok (Some code)) (code_again codes.Compact)
back_again (Some codes.Parted) = ap (λ r. r >>= λ code. Ok (Some code)) (code_again codes.Parted)
back_again (Some codes.Dict) = ap (λ r. r >>= λ code. Ok (Some code)) (code_again codes.Dict)
back_again (Some codes.EliasFano) = ap (λ r. r >>= λ code. Ok (Some code)) (code_again codes.EliasFano)

-- the encoding that was read has these numbers
pub encoding_takes : (head : HeadFields) (enc : Encoding) → encoding_at head ≡ Ok enc →
    (code_number enc.front ≡ head.front) × (back_number enc.back ≡ head.back)
unfolding encoding_at
encoding_takes head enc e =
    let a = bind_ok (code_with head.front) (λ front. back_with head.back >>= λ back. done {A = Encoding} (record { front = front; back = back })) enc e in
    let b = bind_ok (back_with head.back) (λ back. done {A = Encoding} (record { front = a.0; back = back })) enc a.2 in
    let same = ok_is {A = Encoding} (record { front = a.0; back = b.0 }) enc b.2 in (
      ap (λ (x : Encoding). code_number x.front) (sym same) ∙ code_takes head.front a.0 a.1,
      ap (λ (x : Encoding). back_number x.back) (sym same) ∙ back_takes head.back b.0 b.1,
    )

-- the numbers of an encoding are read as that encoding
pub encoding_again : (head : HeadFields) (enc : Encoding) → head.front ≡ code_number enc.front → head.back ≡ back_number enc.back →
    encoding_at head ≡ Ok enc
unfolding encoding_at
encoding_again head enc front back =
    let first : code_with head.front ≡ Ok enc.front = ap code_with front ∙ code_again enc.front in
    let second : back_with head.back ≡ Ok enc.back = ap back_with back ∙ back_again enc.back in
    rw (first, second) refl

-- the map that was read has that number, and the first version has one map alone
pub map_takes : (version k : ℕ) (spread : Map) → map_with version k ≡ Ok spread →
    (map_number spread ≡ k) × ((version ≡ MARKED → ⊥) → spread ≡ Skewed)
unfolding map_with
map_takes version k spread e =
    let other : Result Map IndexFault = cond ((k == 1) && (version == MARKED)) (Ok Uniform) (Err faults.Encoding) in
    elim (either_ok {B = Map} (k == 0) Skewed other spread e) [
      | inl a ↦ (ap map_number (sym a.1) ∙ sym (eqb-true k 0 a.0), λ unmarked. sym a.1)
      | inr b ↦
          let c = last_ok {B = Map} ((k == 1) && (version == MARKED)) faults.Encoding Uniform spread b.1 in
          let both = and_parts (k == 1) (version == MARKED) c.0 in
          (ap map_number (sym c.1) ∙ sym (eqb-true k 1 both.0), λ unmarked. absurd (unmarked (eqb-true version MARKED both.1)))
    ]

-- the number of a map is read as that map, of the second version if it isn't the skewed one
pub map_again : (version : ℕ) (spread : Map) → (spread ≡ Skewed) ⊎ (version ≡ MARKED) → map_with version (map_number spread) ≡ Ok spread
unfolding map_with
map_again version Skewed h = refl
map_again version Uniform (inl skewed) = absurd cc
map_again version Uniform (inr marked) = rw (eq-eqb version MARKED marked) refl

-- ---- ranges

-- the fields are in their ranges, and the shape is theirs
pub record IsInRange (spread : Map) (head : HeadFields) (shape : ShapeData) : Type 0 where
  pub some_key : 1 ≤ head.n
  pub few_keys : head.n ≤ MAX_KEYS
  pub some_part : 1 ≤ head.parts
  pub few_parts : head.parts ≤ MAX_PARTITIONS
  pub shape_ranges : IsShape shape
  pub shape_is : shape ≡ record { alpha = head.alpha; c = head.c; map = spread }

-- what passes the tests of the ranges is in them
pub shape_takes : (spread : Map) (head : HeadFields) (shape : ShapeData) → shape_at spread head ≡ Ok shape → IsInRange spread head shape
unfolding shape_at
shape_takes spread head shape e =
    let made : ShapeData = record { alpha = head.alpha; c = head.c; map = spread } in
    let three : Result ShapeData IndexFault = cond (not (is_within 1 MAX_PARTITIONS head.parts)) (Err (faults.Field PARTITIONS_AT)) (Ok made) in
    let two : Result ShapeData IndexFault = cond (not (is_within MIN_C MAX_C head.c)) (Err (faults.Field BUCKETS_AT)) three in
    let one : Result ShapeData IndexFault = cond (not (is_within MIN_ALPHA MAX_ALPHA head.alpha)) (Err (faults.Field ALPHA_AT)) two in
    let a = guard_ok (not (is_within 1 MAX_KEYS head.n)) (faults.Field KEYS_AT) one shape e in
    let b = guard_ok (not (is_within MIN_ALPHA MAX_ALPHA head.alpha)) (faults.Field ALPHA_AT) two shape a.1 in
    let c = guard_ok (not (is_within MIN_C MAX_C head.c)) (faults.Field BUCKETS_AT) three shape b.1 in
    let d = guard_ok (not (is_within 1 MAX_PARTITIONS head.parts)) (faults.Field PARTITIONS_AT) (Ok made) shape c.1 in
    let n = is_within-ok 1 MAX_KEYS head.n a.0 in
    let alpha = is_within-ok MIN_ALPHA MAX_ALPHA head.alpha b.0 in
    let buckets = is_within-ok MIN_C MAX_C head.c c.0 in
    let parts = is_within-ok 1 MAX_PARTITIONS head.parts d.0 in
    let is : made ≡ shape = ok_is made shape d.1 in
    record {
      some_key = n.0;
      few_keys = n.1;
      some_part = parts.0;
      few_parts = parts.1;
      shape_ranges = subst IsShape is (record { alpha_low = alpha.0; alpha_high = alpha.1; c_low = buckets.0; c_high = buckets.1 });
      shape_is = sym is;
    }

-- fields in their ranges pass the tests
pub shape_again : (head : HeadFields) (shape : ShapeData) → IsInRange shape.map head shape → shape_at shape.map head ≡ Ok shape
unfolding shape_at
shape_again head shape range =
    let alpha : shape.alpha ≡ head.alpha = ap (λ (s : ShapeData). s.alpha) range.shape_is in
    let c : shape.c ≡ head.c = ap (λ (s : ShapeData). s.c) range.shape_is in
    let r = range.shape_ranges in
    rw (
      is_within-again 1 MAX_KEYS head.n range.some_key range.few_keys,
      is_within-again MIN_ALPHA MAX_ALPHA head.alpha (omega (arith, r.alpha_low)) (omega (arith, r.alpha_high)),
      is_within-again MIN_C MAX_C head.c (omega (arith, r.c_low)) (omega (arith, r.c_high)),
      is_within-again 1 MAX_PARTITIONS head.parts range.some_part range.few_parts,
    ) (ap (λ (s : ShapeData). Ok s) (sym range.shape_is))
