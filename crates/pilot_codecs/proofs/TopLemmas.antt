-- The width of packed numbers, by their top bits.
use Rattle.std.proofs.Common.{◌≡◌, ℕ, zero, suc, ◌+◌, ◌*◌, ◌/◌, ◌-◌, ◌^◌, ◌<◌, ◌≤◌, ◌%◌, List, length, get_or, sym, ap, ◌∙◌}
use Rattle.std.proofs.Common.{inl, inr, arith}
use Rattle.std.proofs.Math.Nat.{pow-suc, pow-le-pow_right}
use Rattle.std.proofs.Math.Pow.{field}
use Rattle.std.proofs.lemmas.Nat.{shr-shr, shr_split}
use Rattle.std.proofs.lemmas.Bool.{cases_lt, lt-ltb, le-ltb}
use Rattle.bit_vector.proofs.PackLemmas.{below_from_div}
use Rattle.elias_fano.specs.Spelling.{log2_within}
use Rattle.pilot_codecs.specs.Spelling.{digits_of, greatest}
use Rattle.pilot_codecs.proofs.FieldLemmas.{digits_of-is, digits_of-pos, get_or-le-greatest}
use Rattle.pilot_codecs.proofs.DictMembers.{greatest_within}

-- the top bit of a number among others is what is left of it without its lower bits
pub top_bit : (n w i at v : ℕ) → 0 < w → at ≡ i * w + (w - 1) → n / 2 ^ (i * w) % 2 ^ w ≡ v → n / 2 ^ at % 2 ^ 1 ≡ v / 2 ^ (w - 1)
top_bit n w i at v some place e =
    let x = n / 2 ^ (i * w) in
    let r = w - 1 in
    let digits : 1 + r ≡ w = omega (arith, some) in
    ap (λ (k : ℕ). n / 2 ^ k % 2 ^ 1) place ∙ ap (λ (k : ℕ). k % 2 ^ 1) (sym (shr-shr n (i * w) r)) ∙ sym (field x 1 r)
    ∙ ap (λ (k : ℕ). x % 2 ^ k / 2 ^ r) digits ∙ ap (λ (k : ℕ). k / 2 ^ r) e

-- a number whose top bit is set reaches the power of that bit
pub top_set : (v r b : ℕ) → b ≡ v / 2 ^ r → b ≡ 1 → 2 ^ r ≤ v
top_set v r b e one = omega (arith, ap (λ (k : ℕ). k * 2 ^ r) (sym e ∙ one), shr_split v r)

-- a number whose top bit is clear is below that power
pub top_clear : (v r b : ℕ) → b ≡ v / 2 ^ r → b < 2 → (b ≡ 1 → ⊥) → v < 2 ^ r
top_clear v r b e small other = below_from_div v r (omega (arith, e, small, other))

-- the logarithm of a number below a power of two is below the exponent
log2_below : (most r n : ℕ) → n < 2 ^ suc r → log2_within most n ≤ r
unfolding log2_within
log2_below zero r n lt = omega arith
log2_below (suc most) zero n lt = rw (lt-ltb n 2 (omega (arith, lt, pow-suc 2 0))) (omega arith)
log2_below (suc most) (suc r) n lt =
    elim (cases_lt n 2) [
      | inl small ↦ rw (lt-ltb n 2 small) (omega arith)
      | inr large ↦ rw (le-ltb n 2 large) (omega (arith, log2_below most r (n / 2) (omega (arith, lt, pow-suc 2 (suc r)))))
    ]

-- a number below a power of two has no more digits than the exponent
pub digits_within : (n r : ℕ) → n < 2 ^ suc r → digits_of n ≤ suc r
unfolding digits_of
digits_within n r lt = omega (arith, log2_below 63 r n lt)

-- a number below two has one digit
pub one_digit : (n : ℕ) → n < 2 ^ 1 → digits_of n ≡ 1
one_digit n lt = omega (arith, digits_within n 0 lt, digits_of-pos n)

-- the width is right where some value has its top bit
pub top_reached : (vs : List ℕ) (w r i : ℕ) → w ≡ r + 1 → w ≤ 64 → greatest vs < 2 ^ w → 2 ^ r ≤ get_or vs i 0 →
    digits_of (greatest vs) ≡ w
top_reached vs w r i e narrow fits reached =
    let more : 2 ^ w ≤ 2 ^ 64 = pow-le-pow_right (omega arith) narrow in
    let double : 2 ^ w ≡ 2 ^ r * 2 = ap (λ (k : ℕ). 2 ^ k) (omega (arith, e)) ∙ pow-suc 2 r in
    omega (arith, digits_of-is (greatest vs) r (omega (arith, fits, more)) (omega (arith, reached, get_or-le-greatest vs i)) (omega (arith, fits, double)), e)

-- the width is wrong where no value has its top bit
pub top_missed : (vs : List ℕ) (w r : ℕ) → w ≡ r + 1 → 0 < r → ((i : ℕ) → i < length vs → get_or vs i 0 < 2 ^ r) →
    digits_of (greatest vs) ≡ w → ⊥
top_missed vs w zero e some below is = omega (arith, some)
top_missed vs w (suc r) e some below is =
    let most = greatest_within (2 ^ suc r - 1) vs (λ i lt. omega (arith, below i lt)) in
    let pos : 0 < 2 ^ suc r = Rattle.std.proofs.lemmas.Nat.pow_pos (suc r) in
    omega (arith, is, e, digits_within (greatest vs) r (omega (arith, most, pos)))
