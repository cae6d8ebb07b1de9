-- Numbers at places in bytes.
use Rattle.std.specs.Prelude.{◌≡◌, ℕ, ◌+◌, ◌^◌, ◌<◌, ◌≤◌, List, ◌++◌, length, take, drop}
use Rattle.std.specs.Int.{w64, from_le_bytes}
use Rattle.std.proofs.Common.{get_or, refl, sym, ap, ◌∙◌, subst, arith}
use Rattle.std.proofs.lemmas.List.{drop-drop, drop_at, length-take, length-drop, take-append-drop}
use Rattle.std.proofs.lemmas.Nat.{le_bytes_8, from_le_bytes-to_le_bytes_8}
use Rattle.elias_fano.specs.Spelling.{number}
use Rattle.elias_fano.proofs.CallerLemmas.{IsBytes, IsBytes-drop, IsBytes-take}
use Rattle.index_text.specs.Fields.{word_at}

-- a number at a place in bytes, and what follows
pub word_text : (at : ℕ) (bytes : List ℕ) → IsBytes bytes → at + 8 ≤ length bytes →
    drop at bytes ≡ number (word_at at bytes) ++ drop (at + 8) bytes
word_text at bytes fits le =
    let b = drop at bytes in
    let size : length (take 8 b) ≡ 8 = omega (arith, length-take 8 b, length-drop at bytes) in
    let front : number (word_at at bytes) ≡ take 8 b = le_bytes_8 (take 8 b) (word_at at bytes) size (IsBytes-take 8 b (IsBytes-drop at bytes fits)) refl in
    sym (take-append-drop 8 b) ∙ ap (λ (t : List ℕ). t ++ drop 8 b) (sym front)
    ∙ ap (λ (t : List ℕ). number (word_at at bytes) ++ t) (drop-drop 8 at bytes)

-- a number at a place has 64 bits
pub word_at-lt : (at : ℕ) (bytes : List ℕ) → IsBytes bytes → word_at at bytes < 2 ^ 64
word_at-lt at bytes fits = number_lt (take 8 (drop at bytes)) (IsBytes-take 8 (drop at bytes) (IsBytes-drop at bytes fits))
  where
    -- eight bytes make a number of 64 bits
    number_lt : (b : List ℕ) → IsBytes b → from_le_bytes w64 b < 2 ^ 64
    number_lt b h = omega (arith, h 0, h 1, h 2, h 3, h 4, h 5, h 6, h 7)

-- a number that is written at a place is read there
pub word_again : (at : ℕ) (bytes : List ℕ) (n : ℕ) (rest : List ℕ) → drop at bytes ≡ number n ++ rest → n < 2 ^ 64 → word_at at bytes ≡ n
word_again at bytes n rest text fits = ap (λ (t : List ℕ). from_le_bytes w64 (take 8 t)) text ∙ from_le_bytes-to_le_bytes_8 n fits

-- and what follows it stands eight places later
pub word_rest : (at : ℕ) (bytes : List ℕ) (n : ℕ) (rest : List ℕ) → drop at bytes ≡ number n ++ rest → drop (at + 8) bytes ≡ rest
word_rest at bytes n rest text = sym (drop-drop 8 at bytes) ∙ ap (λ (t : List ℕ). drop 8 t) text

-- the bytes behind a text are bytes
pub rest_fits : (bytes text rest : List ℕ) → IsBytes bytes → bytes ≡ text ++ rest → IsBytes rest
rest_fits bytes text rest fits parts i =
    let same : rest ≡ drop (length text) bytes = sym (drop_at text rest (length text) refl) ∙ ap (λ (t : List ℕ). drop (length text) t) (sym parts) in
    subst (λ (t : List ℕ). get_or t i 0 < 256) (sym same) (IsBytes-drop (length text) bytes fits i)
