-- Numbers of one width, and the width of the greatest.
use Rattle.std.proofs.Common.{◌≡◌, ℕ, zero, suc, ◌+◌, ◌*◌, ◌/◌, ◌^◌, ◌<◌, ◌≤◌, max, Bool, List, [], ◌∷◌, ◌++◌}
use Rattle.std.proofs.Common.{length, get_or, take, drop, refl, sym, ap, ◌∙◌}
use Rattle.std.proofs.Common.{inl, inr, arith}
use Rattle.std.proofs.Math.Nat.{mod-eq_of_lt}
use Rattle.std.proofs.lemmas.Bool.{cases_lt, lt-ltb, le-ltb}
use Rattle.std.proofs.Math.Nat.{pow-suc}
use Rattle.std.proofs.lemmas.List.{drop-drop, take_at, drop_at, take-append-drop, length-take, length-drop, nil_from_length}
use Rattle.bit_vector.specs.Bits.{bits_of, number_of, bits_of_each}
use Rattle.bit_vector.proofs.CallerLemmas.{length-bits_of, bits_of-number_of, number_of-bits_of}
use Rattle.elias_fano.specs.Spelling.{log2_within}
use Rattle.elias_fano.proofs.CallerLemmas.{log2_is, log2-le}
use Rattle.pilot_codecs.specs.Spelling.{digits_of, greatest}
use Rattle.pilot_codecs.specs.Reading.{fields}

-- ---- the width of a number

-- a number is below the power after its logarithm
below_digits : (most n : ℕ) → n < 2 ^ suc most → n < 2 ^ (log2_within most n + 1)
unfolding log2_within
below_digits zero n lt = omega (arith, pow-suc 2 0)
below_digits (suc most) n lt =
    elim (cases_lt n 2) [
      | inl small ↦ rw (lt-ltb n 2 small) (omega arith)
      | inr large ↦
          let half = below_digits most (n / 2) (omega (arith, pow-suc 2 (suc most))) in
          let more : 2 ^ (log2_within most (n / 2) + 1 + 1) ≡ 2 ^ (log2_within most (n / 2) + 1) * 2 = ap (λ (j : ℕ). 2 ^ j) (omega arith)
          ∙ pow-suc 2 (log2_within most (n / 2) + 1) in
          rw (le-ltb n 2 large) (omega (arith, half, more))
    ]

-- a number is below the power of its digits
pub lt-digits_of : (n : ℕ) → n < 2 ^ 64 → n < 2 ^ digits_of n
unfolding digits_of
lt-digits_of n lt = below_digits 63 n lt

-- a 64-bit number has at most 64 digits
pub digits_of-le : (n : ℕ) → digits_of n ≤ 64
unfolding digits_of
digits_of-le n = omega (arith, log2-le 63 n)

-- a number has at least one digit
pub digits_of-pos : (n : ℕ) → 0 < digits_of n
unfolding digits_of
digits_of-pos n = omega arith

-- zero has one digit
pub digits_of-none : (n : ℕ) → n ≡ 0 → digits_of n ≡ 1
unfolding digits_of log2_within
digits_of-none n e = rw e refl

-- between two powers the digits are the upper exponent
pub digits_of-is : (n r : ℕ) → n < 2 ^ 64 → 2 ^ r ≤ n → n < 2 * 2 ^ r → digits_of n ≡ r + 1
unfolding digits_of
digits_of-is n r lt low high = ap (λ (x : ℕ). x + 1) (log2_is 63 n r lt low high)

-- ---- the greatest value

-- the greatest of none is 0
pub greatest-nil : greatest [] ≡ 0
unfolding greatest
greatest-nil = refl

-- the greatest is the first or one of the others
pub greatest-cons : (v : ℕ) (vs : List ℕ) → greatest (v ∷ vs) ≡ max v (greatest vs)
unfolding greatest
greatest-cons v vs = refl

-- a value behind others is compared with their greatest
pub greatest-push : (vs : List ℕ) (v : ℕ) → greatest (vs ++ v ∷ []) ≡ max (greatest vs) v
unfolding greatest
greatest-push [] v = omega arith
greatest-push (x ∷ vs) v = omega (arith, greatest-push vs v)

-- no value is above the greatest
pub get_or-le-greatest : (vs : List ℕ) (i : ℕ) → get_or vs i 0 ≤ greatest vs
unfolding greatest
get_or-le-greatest [] i = omega arith
get_or-le-greatest (v ∷ vs) zero = omega arith
get_or-le-greatest (v ∷ vs) (suc i) = omega (arith, get_or-le-greatest vs i)

-- ---- fields

-- there are as many fields as asked for
pub length-fields : (n w : ℕ) (bits : List Bool) → length (fields n w bits) ≡ n
unfolding fields
length-fields zero w bits = refl
length-fields (suc n) w bits = ap suc (length-fields n w (drop w bits))

-- a field is the number of the bits at its place
pub get_or-fields : (n w : ℕ) (bits : List Bool) (i : ℕ) → i < n → get_or (fields n w bits) i 0 ≡ number_of (take w (drop (i * w) bits))
unfolding fields
get_or-fields zero w bits i lt = absurd (omega arith)
get_or-fields (suc n) w bits zero lt = let start : 0 * w ≡ 0 = omega arith in rw start refl
get_or-fields (suc n) w bits (suc i) lt =
    let place : w + i * w ≡ suc i * w = omega arith in
    get_or-fields n w (drop w bits) i (omega arith)
    ∙ ap (λ (bs : List Bool). number_of (take w bs)) (drop-drop (i * w) w bits ∙ ap (λ (j : ℕ). drop j bits) place)

-- the bits of the fields are the bits
pub bits_of_each-fields : (n w : ℕ) (bits : List Bool) → length bits ≡ n * w → bits_of_each w (fields n w bits) ≡ bits
unfolding fields bits_of_each
bits_of_each-fields zero w bits e = sym (nil_from_length bits (omega (arith, e)))
bits_of_each-fields (suc n) w bits e =
    let size : length (take w bits) ≡ w = omega (arith, length-take w bits, e) in
    let first : bits_of w (number_of (take w bits)) ≡ take w bits = ap (λ (j : ℕ). bits_of j (number_of (take w bits))) (sym size)
    ∙ bits_of-number_of (take w bits) in
    let others = bits_of_each-fields n w (drop w bits) (omega (arith, length-drop w bits, e)) in
    ap (λ (bs : List Bool). bs ++ bits_of_each w (fields n w (drop w bits))) first ∙ ap (λ (bs : List Bool). take w bits ++ bs) others
    ∙ take-append-drop w bits

-- the fields of the bits of values are these values
pub fields-bits_of_each : (w : ℕ) (vs : List ℕ) → greatest vs < 2 ^ w → fields (length vs) w (bits_of_each w vs) ≡ vs
unfolding fields bits_of_each greatest
fields-bits_of_each w [] lt = refl
fields-bits_of_each w (v ∷ vs) lt =
    let size = length-bits_of w v in
    let front : take w (bits_of w v ++ bits_of_each w vs) ≡ bits_of w v = take_at (bits_of w v) (bits_of_each w vs) w size in
    let rest : drop w (bits_of w v ++ bits_of_each w vs) ≡ bits_of_each w vs = drop_at (bits_of w v) (bits_of_each w vs) w size in
    let first : number_of (take w (bits_of w v ++ bits_of_each w vs)) ≡ v = ap number_of front ∙ number_of-bits_of w v
    ∙ mod-eq_of_lt (omega (arith, lt)) in
    ap (λ (x : ℕ). x ∷ fields (length vs) w (drop w (bits_of w v ++ bits_of_each w vs))) first
    ∙ ap (λ (bs : List Bool). v ∷ fields (length vs) w bs) rest
    ∙ ap (λ (xs : List ℕ). v ∷ xs) (fields-bits_of_each w vs (omega (arith, lt)))
