-- What each step of reading gives, and how a fault of one step becomes that of the whole.
use Rattle.std.proofs.Common.{◌≡◌, ℕ, zero, suc, ◌+◌, ◌*◌, ◌-◌, ◌^◌, ◌<◌, ◌≤◌, Bool, true, false, ltb, List, [], ◌∷◌}
use Rattle.std.proofs.Common.{◌++◌, length, get_or, take, drop, Ok}
use Rattle.std.proofs.Common.{Err, refl, sym, ap, ◌∙◌, subst, inl, inr, arith}
use Rattle.std.specs.Prelude.{◌⊎◌}
use Rattle.std.specs.Int.{w64, from_le_bytes}
use Rattle.std.proofs.lemmas.Bool.{cases_lt, lt-ltb, le-ltb, eq-eqb, ne_eqb}
use Rattle.std.proofs.lemmas.List.{drop-drop, take_rest}
use Rattle.bit_vector.specs.Bits.{bits_of, words_number, words_for, ones, IsPacked}
use Rattle.bit_vector.proofs.CallerLemmas.{packed_none}
use Rattle.elias_fano.specs.declared.fault.ReadErr.{ReadErr}
use Rattle.elias_fano.specs.declared.fault.ReadErr.TheVariants as errors
use Rattle.elias_fano.specs.Spelling.{low_width, last_of, rises, high_len}
use Rattle.elias_fano.specs.Values.{values_of}
use Rattle.elias_fano.specs.Reading.{Fails, fault, number_at, words_in, run_at, checked, parts_at, list_at}

-- each byte is below 256
abbrev pub IsBytes : List ℕ → Type 0
IsBytes bytes = (i : ℕ) → get_or bytes i 0 < 256

-- fewer than 8 bytes are too few for a number
pub number_at-short : (at : ℕ) (bytes : List ℕ) → length bytes < 8 → number_at at bytes ≡ Err (fault at 1)
unfolding number_at
number_at-short at bytes lt = rw (lt-ltb (length bytes) 8 lt) refl

-- 8 bytes are a number, and the rest follows
pub number_at-ok : (at : ℕ) (bytes : List ℕ) (n : ℕ) → 8 ≤ length bytes → n ≡ from_le_bytes w64 (take 8 bytes) →
    number_at at bytes ≡ Ok (n, take (length bytes - 8) (drop 8 bytes))
unfolding number_at
number_at-ok at bytes n le e =
    rw (le-ltb (length bytes) 8 le, take_rest bytes 8) (ap (λ (x : ℕ). Ok (x, drop 8 bytes)) (sym e))

-- one word more is the one that stands behind the others
pub words_in-more : (i : ℕ) (bytes : List ℕ) → words_in (i + 1) bytes ≡ words_in i bytes ++ from_le_bytes w64 (take 8 (drop (8 * i) bytes)) ∷ []
unfolding words_in
words_in-more zero bytes = refl
words_in-more (suc i) bytes =
    let next : suc i + 1 ≡ suc (i + 1) = omega arith in
    let place : 8 + 8 * i ≡ 8 * suc i = omega arith in
    ap (λ (k : ℕ). words_in k bytes) next
    ∙ ap (λ (ws : List ℕ). from_le_bytes w64 (take 8 bytes) ∷ ws) (words_in-more i (drop 8 bytes))
    ∙ ap (λ (bs : List ℕ). from_le_bytes w64 (take 8 bytes) ∷ (words_in i (drop 8 bytes) ++ from_le_bytes w64 (take 8 bs) ∷ []))
    (drop-drop (8 * i) 8 bytes
    ∙ ap (λ (k : ℕ). drop k bytes) place)

-- no words are asked for
pub words_in-none : (bytes : List ℕ) → [] ≡ words_in 0 bytes
unfolding words_in
words_in-none bytes = refl

-- as many words as asked for are read
pub length-words_in : (k : ℕ) (bytes : List ℕ) → length (words_in k bytes) ≡ k
unfolding words_in
length-words_in zero bytes = refl
length-words_in (suc k) bytes = ap suc (length-words_in k (drop 8 bytes))

-- bytes after others are bytes
pub IsBytes-drop : (n : ℕ) (bytes : List ℕ) → IsBytes bytes → IsBytes (drop n bytes)
IsBytes-drop n bytes h i = rw Rattle.std.proofs.lemmas.List.get_or-drop (h (n + i))

-- the first bytes are bytes
pub IsBytes-take : (n : ℕ) (bytes : List ℕ) → IsBytes bytes → IsBytes (take n bytes)
IsBytes-take n bytes h i =
    elim (cases_lt i n) [
      | inl lt ↦ rw (Rattle.std.proofs.lemmas.List.get_or-take n bytes i 0 lt) (h i)
      | inr le ↦ rw (Rattle.std.proofs.lemmas.List.get_or_past (take n bytes) i 0 (omega (arith, Rattle.std.proofs.lemmas.List.length-take n bytes)))
          (omega arith)
    ]

-- 8 bytes are a number below 2^64
pub number_lt : (bytes : List ℕ) → IsBytes bytes → from_le_bytes w64 bytes < 2 ^ 64
number_lt bytes h = omega (arith, h 0, h 1, h 2, h 3, h 4, h 5, h 6, h 7)

-- each word that is read is below 2^64
pub words_in-fit : (k : ℕ) (bytes : List ℕ) → IsBytes bytes → (i : ℕ) → get_or (words_in k bytes) i 0 < 2 ^ 64
unfolding words_in
words_in-fit zero bytes h i = omega arith
words_in-fit (suc k) bytes h zero = number_lt (take 8 bytes) (IsBytes-take 8 bytes h)
words_in-fit (suc k) bytes h (suc i) = words_in-fit k (drop 8 bytes) (IsBytes-drop 8 bytes h) i

-- a run is short where the bytes end before its words
pub run_at-short : (at len count : ℕ) (bytes : List ℕ) → count ≡ words_for len → length bytes < 8 * count → run_at at len bytes ≡ Err (fault at 1)
unfolding run_at
run_at-short at len count bytes c lt = rw (lt-ltb (length bytes) (8 * words_for len) (omega (arith, c))) refl

-- words that are read are packed where no unused bit is set
pub packed_if_clear : (len : ℕ) (bytes : List ℕ) → IsBytes bytes → words_number (words_in (words_for len) bytes) < 2 ^ len →
    IsPacked (words_in (words_for len) bytes) len
packed_if_clear len bytes h lt = record { count = length-words_in (words_for len) bytes; fit = words_in-fit (words_for len) bytes h; clear = lt }

-- words that aren't packed have a set unused bit
pub run_at-padding : (at len count : ℕ) (bytes items : List ℕ) → count ≡ words_for len → 8 * count ≤ length bytes → IsBytes bytes →
    items ≡ words_in count bytes → (IsPacked items len → ⊥) →
    run_at at len bytes ≡ Err (fault (at + 8 * count - 8) 3)
unfolding run_at
run_at-padding at len count bytes items c le h e other =
    let n = words_number (words_in (words_for len) bytes) in
    let same : items ≡ words_in (words_for len) bytes = e ∙ ap (λ (k : ℕ). words_in k bytes) c in
    let past : ltb n (2 ^ len) ≡ false = elim (cases_lt n (2 ^ len)) [
      | inl lt ↦ absurd (other (subst (λ (ws : List ℕ). IsPacked ws len) (sym same) (packed_if_clear len bytes h lt)))
      | inr ge ↦ le-ltb n (2 ^ len) ge
    ] in
    rw (le-ltb (length bytes) (8 * words_for len) (omega (arith, c)), past, c) refl

-- words that aren't packed aren't none
pub some_words : (len count : ℕ) (bytes items : List ℕ) → count ≡ words_for len → items ≡ words_in count bytes →
    (IsPacked items len → ⊥) → 0 < count
some_words len zero bytes items c e other =
    let none : len ≡ 0 = omega (arith, c) in
    let empty : items ≡ [] = e ∙ sym (words_in-none bytes) in
    absurd (other (rw (none, empty) packed_none))
some_words len (suc k) bytes items c e other = omega arith

-- packed words are a run
pub run_at-ok : (at len count : ℕ) (bytes items : List ℕ) (bits : List Bool) → count ≡ words_for len → 8 * count ≤ length bytes →
    items ≡ words_in count bytes → IsPacked items len → bits ≡ bits_of len (words_number items) →
    run_at at len bytes ≡ Ok (bits, take (length bytes - 8 * count) (drop (8 * count) bytes))
unfolding run_at
run_at-ok at len count bytes items bits c le e p b =
    let same : items ≡ words_in (words_for len) bytes = e ∙ ap (λ (k : ℕ). words_in k bytes) c in
    let clear : ltb (words_number (words_in (words_for len) bytes)) (2 ^ len) ≡ true =
    lt-ltb _ _ (subst (λ (ws : List ℕ). words_number ws < 2 ^ len) same p.clear) in
    let value : bits_of len (words_number (words_in (words_for len) bytes)) ≡ bits = ap (λ (ws : List ℕ). bits_of len (words_number ws)) (sym same)
    ∙ sym b in
    rw (
      le-ltb (length bytes) (8 * words_for len) (omega (arith, c)),
      clear,
      take_rest bytes (8 * count),
      c,
    ) (ap (λ (bs : List Bool). Ok (bs, drop (8 * words_for len) bytes)) value)

-- ---- the checks

-- another number of ones is the first fault of the bits
pub checked-count : (at high_at count last w : ℕ) (low high : List Bool) → (ones high ≡ count → ⊥) →
    checked at high_at count last w low high ≡ Err (fault high_at 5)
unfolding checked
checked-count at high_at count last w low high other = rw (ne_eqb (ones high) count other) refl

-- then a value below the one before it
pub checked-order : (at high_at count last w : ℕ) (low high : List Bool) → ones high ≡ count → rises 0 (values_of w low high) ≡ false →
    checked at high_at count last w low high ≡ Err (fault (at + 8) 4)
unfolding checked
checked-order at high_at count last w low high e other = rw (eq-eqb (ones high) count e, other) refl

-- then another last value
pub checked-last : (at high_at count last w : ℕ) (low high : List Bool) → ones high ≡ count → rises 0 (values_of w low high) ≡ true →
    (last_of 0 (values_of w low high) ≡ last → ⊥) → checked at high_at count last w low high ≡ Err (fault at 6)
unfolding checked
checked-last at high_at count last w low high e r other = rw (eq-eqb (ones high) count e, r, ne_eqb (last_of 0 (values_of w low high)) last other) refl

-- bits without a fault are their values
pub checked-ok : (at high_at count last w : ℕ) (low high : List Bool) → ones high ≡ count → rises 0 (values_of w low high) ≡ true →
    last_of 0 (values_of w low high) ≡ last → checked at high_at count last w low high ≡ Ok (values_of w low high)
unfolding checked
checked-ok at high_at count last w low high e r l = rw (eq-eqb (ones high) count e, r, eq-eqb (last_of 0 (values_of w low high)) last l) refl

-- ---- one step after the other

-- a fault of the low bits is that of the list
pub parts_at-low : (e : ReadErr) (at count last w : ℕ) (bytes : List ℕ) → Fails e (run_at (at + 8) (count * w) bytes) →
    Fails e (parts_at at count last w bytes)
unfolding parts_at
parts_at-low errors.NoMemory at count last w bytes h = tt
parts_at-low (errors.Form f) at count last w bytes h = rw h refl

-- so is one of the high bits
pub parts_at-high : (e : ReadErr) (at count last w : ℕ) (bytes : List ℕ) (low : List Bool) (rest : List ℕ) →
    run_at (at + 8) (count * w) bytes ≡ Ok (low, rest) → Fails e (run_at (at + 8 + 8 * words_for (count * w)) (high_len count last w) rest) →
    Fails e (parts_at at count last w bytes)
unfolding parts_at
parts_at-high errors.NoMemory at count last w bytes low rest l h = tt
parts_at-high (errors.Form f) at count last w bytes low rest l h = rw (l, h) refl

-- so is one of what both say
pub parts_at-check : (e : ReadErr) (at count last w : ℕ) (bytes : List ℕ) (low high : List Bool) (rest after : List ℕ) →
    run_at (at + 8) (count * w) bytes ≡ Ok (low, rest) → run_at (at + 8 + 8 * words_for (count * w)) (high_len count last w) rest ≡ Ok (high, after) →
    Fails e (checked at (at + 8 + 8 * words_for (count * w)) count last w low high) → Fails e (parts_at at count last w bytes)
unfolding parts_at
parts_at-check errors.NoMemory at count last w bytes low high rest after l h c = tt
parts_at-check (errors.Form f) at count last w bytes low high rest after l h c = rw (l, h, c) refl

-- without a fault the list is read
pub parts_at-ok : (at count last w : ℕ) (bytes : List ℕ) (low high : List Bool) (rest after vs : List ℕ) →
    run_at (at + 8) (count * w) bytes ≡ Ok (low, rest) → run_at (at + 8 + 8 * words_for (count * w)) (high_len count last w) rest ≡ Ok (high, after) →
    checked at (at + 8 + 8 * words_for (count * w)) count last w low high ≡ Ok vs → parts_at at count last w bytes ≡ Ok (vs, after)
unfolding parts_at
parts_at-ok at count last w bytes low high rest after vs l h c = rw (l, h, c) refl

-- a fault of the last value's field is that of the list
pub list_at-number : (e : ReadErr) (at count : ℕ) (bytes : List ℕ) → Fails e (number_at at bytes) → Fails e (list_at at count bytes)
unfolding list_at
list_at-number errors.NoMemory at count bytes h = tt
list_at-number (errors.Form f) at count bytes h = rw h refl

-- an empty list has the last value 0
pub list_at-last : (at count last : ℕ) (bytes rest : List ℕ) → number_at at bytes ≡ Ok (last, rest) → count ≡ 0 → (last ≡ 0 → ⊥) →
    list_at at count bytes ≡ Err (fault at 6)
unfolding list_at
list_at-last at count last bytes rest n none some = rw (n, eq-eqb count 0 none, ne_eqb last 0 some) refl

-- otherwise the bits follow
pub list_at-parts : (at count last : ℕ) (bytes rest : List ℕ) → number_at at bytes ≡ Ok (last, rest) →
    ((count ≡ 0) × (last ≡ 0)) ⊎ (count ≡ 0 → ⊥) →
    list_at at count bytes ≡ parts_at at count last (low_width count last) rest
unfolding list_at
list_at-parts at count last bytes rest n h =
    elim h [
      | inl p ↦ rw (n, eq-eqb count 0 p.0, eq-eqb last 0 p.1) refl
      | inr other ↦ rw (n, ne_eqb count 0 other) refl
    ]
