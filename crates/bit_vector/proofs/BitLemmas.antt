-- A list of bits beside the number that it spells.
use Rattle.std.proofs.Common.{◌≡◌, ℕ, zero, suc, ◌+◌, ◌*◌, ◌-◌, ◌/◌, ◌%◌, ◌^◌, ◌<◌, ◌≤◌, Bool, true, false, cond}
use Rattle.std.proofs.Common.{eqb, List, [], ◌∷◌, ◌++◌, length, get_or}
use Rattle.std.proofs.Common.{take, drop, Some, refl, sym, ap, ◌∙◌, inl, inr, arith}
use Rattle.std.specs.Int.{bit_at}
use Rattle.std.specs.List.{slice_get}
use Rattle.std.specs.Int.RustNames.{count_ones}
use lib.Count.{ones_step}
use Rattle.std.proofs.Math.Nat.{pow-suc, div-one, mod-one}
use Rattle.std.proofs.lemmas.Bool.{cases_eq, eq-eqb, ne_eqb}
use Rattle.std.proofs.lemmas.Nat.{shr-shr, mod-pow-add}
use Rattle.std.proofs.lemmas.Nat.Bits.{bit_at_lowest, bit_at-suc}
use Rattle.std.proofs.lemmas.List.Sums.{sum_by-cons}
use Rattle.bit_vector.specs.Bits.{bits_of, number_of, ones, places_from, places}

-- a number's lowest bits are as many as asked for
pub length-bits_of : (w n : ℕ) → length (bits_of w n) ≡ w
unfolding bits_of
length-bits_of zero n = refl
length-bits_of (suc w) n = ap suc (length-bits_of w (n / 2))

-- the first of the lowest bits are the lowest bits of fewer
pub take-bits_of : (k w n : ℕ) → k ≤ w → take k (bits_of w n) ≡ bits_of k n
unfolding bits_of
take-bits_of zero w n le = refl
take-bits_of (suc k) zero n le = absurd (omega arith)
take-bits_of (suc k) (suc w) n le = ap (λ (bs : List Bool). eqb (n % 2) 1 ∷ bs) (take-bits_of k w (n / 2) (omega arith))

-- a half and then a power less is a power more
halves : (n k : ℕ) → n / 2 / 2 ^ k ≡ n / 2 ^ suc k
halves n k = shr-shr n 1 k ∙ ap (λ (j : ℕ). n / 2 ^ j) (omega arith)

-- what is left of the lowest bits are those of the number shifted
pub drop-bits_of : (k w n : ℕ) → k ≤ w → drop k (bits_of w n) ≡ bits_of (w - k) (n / 2 ^ k)
unfolding bits_of
drop-bits_of zero w n le = let a : w ≡ w - 0 = omega arith in ap (λ (j : ℕ). bits_of j n) a ∙ ap (λ (m : ℕ). bits_of (w - 0) m) (sym (div-one n))
drop-bits_of (suc k) zero n le = absurd (omega arith)
drop-bits_of (suc k) (suc w) n le =
    let a : w - k ≡ suc w - suc k = omega arith in
    drop-bits_of k w (n / 2) (omega arith) ∙ ap (λ (j : ℕ). bits_of j (n / 2 / 2 ^ k)) a ∙ ap (λ (m : ℕ). bits_of (suc w - suc k) m) (halves n k)

-- a rest by a power is the rest of the half, doubled, and the lowest bit
pub half-mod : (n w : ℕ) → n % 2 ^ suc w ≡ (n / 2 % 2 ^ w) * 2 + n % 2
half-mod n w = ap (λ (j : ℕ). n % 2 ^ j) (omega arith) ∙ mod-pow-add n w 1

-- the lowest bit counts what it is worth
pub bit_value : (n : ℕ) → cond (eqb (n % 2) 1) 1 0 ≡ n % 2
bit_value n =
    elim (cases_eq (n % 2) 1) [
      | inl e ↦ rw (eq-eqb (n % 2) 1 e) (sym e)
      | inr d ↦ rw (ne_eqb (n % 2) 1 d) (omega (arith, d))
    ]

-- the lowest bits as a number are the rest by their power
pub number_of-bits_of : (w n : ℕ) → number_of (bits_of w n) ≡ n % 2 ^ w
unfolding bits_of number_of
number_of-bits_of zero n = sym (mod-one n)
number_of-bits_of (suc w) n = omega (arith, bit_value n, number_of-bits_of w (n / 2), half-mod n w)

-- the bits of two numbers, one above the other, are those of the lower and then of the upper
pub bits_of-append : (a b c n v : ℕ) → a + b ≡ c → n < 2 ^ a → bits_of c (n + v * 2 ^ a) ≡ bits_of a n ++ bits_of b v
unfolding bits_of
bits_of-append zero b c n v e lt =
    let here : n + v * 1 ≡ v = omega arith in
    let same : c ≡ b = omega arith in
    ap (λ (j : ℕ). bits_of j (n + v * 1)) same ∙ ap (λ (m : ℕ). bits_of b m) here
bits_of-append (suc a) b zero n v e lt = absurd (omega arith)
bits_of-append (suc a) b (suc c) n v e lt =
    let p : 2 ^ suc a ≡ 2 ^ a * 2 = pow-suc 2 a in
    let vp : v * 2 ^ suc a ≡ v * (2 ^ a * 2) = ap (λ (x : ℕ). v * x) p in
    let q : n + v * 2 ^ suc a ≡ n + 2 * (v * 2 ^ a) = omega arith in
    let lowest : (n + v * 2 ^ suc a) % 2 ≡ n % 2 = omega arith in
    let rest : (n + v * 2 ^ suc a) / 2 ≡ n / 2 + v * 2 ^ a = omega arith in
    let less : n / 2 < 2 ^ a = omega arith in
    ap (λ (x : ℕ). eqb x 1 ∷ bits_of c ((n + v * 2 ^ suc a) / 2)) lowest
    ∙ ap (λ (m : ℕ). eqb (n % 2) 1 ∷ bits_of c m) rest
    ∙ ap (λ (bs : List Bool). eqb (n % 2) 1 ∷ bs) (bits_of-append a b c (n / 2) v (omega arith) less)

-- the bits of the number of bits are these bits
pub bits_of-number_of : (bs : List Bool) → bits_of (length bs) (number_of bs) ≡ bs
unfolding bits_of number_of
bits_of-number_of [] = refl
bits_of-number_of (true ∷ bs) =
    let m = number_of bs in
    let lowest : (1 + 2 * m) % 2 ≡ 1 = omega arith in
    let rest : (1 + 2 * m) / 2 ≡ m = omega arith in
    ap (λ (x : ℕ). eqb x 1 ∷ bits_of (length bs) ((1 + 2 * m) / 2)) lowest ∙ ap (λ (x : ℕ). true ∷ bits_of (length bs) x) rest
    ∙ ap (λ (cs : List Bool). true ∷ cs) (bits_of-number_of bs)
bits_of-number_of (false ∷ bs) =
    let m = number_of bs in
    let lowest : (0 + 2 * m) % 2 ≡ 0 = omega arith in
    let rest : (0 + 2 * m) / 2 ≡ m = omega arith in
    ap (λ (x : ℕ). eqb x 1 ∷ bits_of (length bs) ((0 + 2 * m) / 2)) lowest ∙ ap (λ (x : ℕ). false ∷ bits_of (length bs) x) rest
    ∙ ap (λ (cs : List Bool). false ∷ cs) (bits_of-number_of bs)

-- bits stand for a number below the power of their length
pub number_of-lt : (bs : List Bool) → number_of bs < 2 ^ length bs
unfolding number_of
number_of-lt [] = omega arith
number_of-lt (true ∷ bs) = omega (arith, number_of-lt bs, pow-suc 2 (length bs))
number_of-lt (false ∷ bs) = omega (arith, number_of-lt bs, pow-suc 2 (length bs))

-- a bit in front adds one where it is set
pub ones-cons : (b : Bool) (bs : List Bool) → ones (b ∷ bs) ≡ cond b 1 0 + ones bs
ones-cons b bs = sum_by-cons (λ (x : Bool). cond x 1 0) b bs

-- the ones among the lowest bits are those of the rest
pub ones-bits_of : (w n : ℕ) → ones (bits_of w n) ≡ count_ones (n % 2 ^ w)
unfolding bits_of
ones-bits_of zero n = rw (mod-one n) (unfold count_ones in refl)
ones-bits_of (suc w) n =
    let m = n % 2 ^ suc w in
    let e = half-mod n w in
    let low : m % 2 ≡ n % 2 = omega arith in
    let high : m / 2 ≡ n / 2 % 2 ^ w = omega arith in
    ones-cons (eqb (n % 2) 1) (bits_of w (n / 2)) ∙ ap (λ (x : ℕ). x + ones (bits_of w (n / 2))) (bit_value n ∙ sym low)
    ∙ ap (λ (x : ℕ). m % 2 + x) (ones-bits_of w (n / 2) ∙ ap count_ones (sym high)) ∙ sym (ones_step m)

-- a bit of the lowest bits is that of the number
pub get_or-bits_of : (k w n : ℕ) → k < w → get_or (bits_of w n) k false ≡ eqb (bit_at n k) 1
unfolding bits_of
get_or-bits_of k zero n lt = absurd (omega arith)
get_or-bits_of zero (suc w) n lt = ap (λ (x : ℕ). eqb x 1) (sym (bit_at_lowest n))
get_or-bits_of (suc k) (suc w) n lt = get_or-bits_of k w (n / 2) (omega arith) ∙ ap (λ (x : ℕ). eqb x 1) (sym (bit_at-suc n k))

-- there are as many places as ones
pub length-places_from : (at : ℕ) (bs : List Bool) → length (places_from at bs) ≡ ones bs
unfolding places_from
length-places_from at [] = refl
length-places_from at (true ∷ bs) = omega (arith, length-places_from (at + 1) bs, ones-cons true bs)
length-places_from at (false ∷ bs) = omega (arith, length-places_from (at + 1) bs, ones-cons false bs)

-- a set bit with so many ones before it is the one of that number
pub slice_get-places_from : (at : ℕ) (bs : List Bool) (p i : ℕ) → p < length bs → get_or bs p false ≡ true → ones (take p bs) ≡ i →
    slice_get (places_from at bs) i ≡ Some (at + p)
unfolding places_from
slice_get-places_from at [] p i lt set_there before = absurd (omega arith)
slice_get-places_from at (true ∷ bs) zero zero lt set_there before = ap Some (omega arith)
slice_get-places_from at (true ∷ bs) zero (suc i) lt set_there before = absurd (omega arith)
slice_get-places_from at (false ∷ bs) zero i lt set_there before = absurd cc
slice_get-places_from at (true ∷ bs) (suc p) zero lt set_there before = absurd (omega (arith, ones-cons true (take p bs)))
slice_get-places_from at (true ∷ bs) (suc p) (suc i) lt set_there before =
    slice_get-places_from (at + 1) bs p i (omega arith) set_there (omega (arith, ones-cons true (take p bs))) ∙ ap Some (omega arith)
slice_get-places_from at (false ∷ bs) (suc p) i lt set_there before =
    slice_get-places_from (at + 1) bs p i (omega arith) set_there (omega (arith, ones-cons false (take p bs))) ∙ ap Some (omega arith)

-- the place of a one, and the ones up to it
places_from-step : (at : ℕ) (bs : List Bool) (i p : ℕ) → slice_get (places_from at bs) i ≡ Some p →
    (at ≤ p) × (p - at < length bs) × (ones (take (p - at + 1) bs) ≡ i + 1)
unfolding places_from
places_from-step at [] i p e = absurd cc
places_from-step at (true ∷ bs) zero p e =
    let same : at ≡ p = cc in
    let first : p - at + 1 ≡ 1 = omega (arith, same) in
    (omega (arith, same), omega (arith, same), ap (λ (k : ℕ). ones (take k (true ∷ bs))) first ∙ ones-cons true [])
places_from-step at (true ∷ bs) (suc i) p e =
    let later = places_from-step (at + 1) bs i p e in
    let next : p - at + 1 ≡ suc (p - (at + 1) + 1) = omega (arith, later.0) in (
      omega (arith, later.0),
      omega (arith, later.0, later.1),
      ap (λ (k : ℕ). ones (take k (true ∷ bs))) next ∙ omega (arith, ones-cons true (take (p - (at + 1) + 1) bs), later.2),
    )
places_from-step at (false ∷ bs) i p e =
    let later = places_from-step (at + 1) bs i p e in
    let next : p - at + 1 ≡ suc (p - (at + 1) + 1) = omega (arith, later.0) in (
      omega (arith, later.0),
      omega (arith, later.0, later.1),
      ap (λ (k : ℕ). ones (take k (false ∷ bs))) next ∙ omega (arith, ones-cons false (take (p - (at + 1) + 1) bs), later.2),
    )

-- behind the one with a number stand as many ones more
pub places-step : (bs : List Bool) (i p : ℕ) → slice_get (places bs) i ≡ Some p → (p < length bs) × (ones (take (p + 1) bs) ≡ i + 1)
places-step bs i p e =
    let s = places_from-step 0 bs i p e in
    let same : p - 0 + 1 ≡ p + 1 = omega arith in
    (omega (arith, s.1), ap (λ (k : ℕ). ones (take k bs)) (sym same) ∙ s.2)
