-- Bits that are read from one word or from two.
use Rattle.std.proofs.Common.{◌≡◌, ℕ, ◌+◌, ◌*◌, ◌-◌, ◌/◌, ◌%◌, ◌^◌, ◌<◌, ◌≤◌, List, length, get_or, drop, sym, ap}
use Rattle.std.proofs.Common.{◌∙◌, subst, inl, inr, arith}
use Rattle.std.specs.Prelude.{bit_or, bit_and}
use Rattle.std.proofs.Math.Nat.{add-mul-mod_self_left, add-mul-div_left, mul-mod_left}
use Rattle.std.proofs.lemmas.Nat.{pow_pos, pow-add, shr-shr, shl-shr, mod-pow-add, or_shifted, or_comm, and_mask, one_shl, shr_below}
use Rattle.std.proofs.lemmas.Bool.{cases_lt}
use Rattle.std.proofs.lemmas.List.{drop_more}
use Rattle.bit_vector.specs.Bits.{words_number}
use Rattle.bit_vector.proofs.WordLemmas.{AreWords, words_number-drop}

-- a mask of the lowest bits leaves the rest by their power
pub low_mask : (word width : ℕ) → width < 64 → bit_and word (1 * 2 ^ width % 2 ^ 64 - 1) ≡ word % 2 ^ width
low_mask word width lt = ap (λ (q : ℕ). bit_and word (q - 1)) (one_shl width 64 lt) ∙ and_mask word width

-- a power is one of its parts times the other
pub power_split : (j k : ℕ) → k ≤ j → 2 ^ j ≡ 2 ^ k * 2 ^ (j - k)
power_split j k le = ap (λ (i : ℕ). 2 ^ i) (omega arith) ∙ pow-add 2 k (j - k)

-- a multiple of a larger power changes no lower bit
pub mod-add-multiple : (a q j k : ℕ) → k ≤ j → (a + 2 ^ j * q) % 2 ^ k ≡ a % 2 ^ k
mod-add-multiple a q j k le =
    let e = ap (λ (x : ℕ). x * q) (power_split j k le) in
    let f : a + 2 ^ j * q ≡ a + 2 ^ k * (2 ^ (j - k) * q) = omega (arith, e) in
    ap (λ (x : ℕ). x % 2 ^ k) f ∙ add-mul-mod_self_left a (2 ^ k) (2 ^ (j - k) * q)

-- a multiple of a higher power is divided on its own
pub div-add-multiple : (a q j k : ℕ) → k ≤ j → (a + 2 ^ j * q) / 2 ^ k ≡ a / 2 ^ k + 2 ^ (j - k) * q
div-add-multiple a q j k le =
    let e = ap (λ (x : ℕ). x * q) (power_split j k le) in
    let f : a + 2 ^ j * q ≡ a + 2 ^ k * (2 ^ (j - k) * q) = omega (arith, e) in
    ap (λ (x : ℕ). x / 2 ^ k) f ∙ add-mul-div_left a (2 ^ (j - k) * q) (pow_pos k)

-- the field of a word that is followed by others
low_field : (x z s width : ℕ) → s + width ≤ 64 → (x + 2 ^ 64 * z) / 2 ^ s % 2 ^ width ≡ x / 2 ^ s % 2 ^ width
low_field x z s width le = ap (λ (m : ℕ). m % 2 ^ width) (div-add-multiple x z 64 s (omega arith))
    ∙ mod-add-multiple (x / 2 ^ s) z (64 - s) width (omega arith)

-- what a number has from a word's place on is that word and what is above it
pub words_number-at : (ws : List ℕ) (w : ℕ) → AreWords ws → w < length ws →
    words_number ws / 2 ^ (64 * w) ≡ get_or ws w 0 + 2 ^ 64 * words_number (drop (w + 1) ws)
unfolding words_number
words_number-at ws w h lt = sym (words_number-drop w ws h) ∙ ap words_number (drop_more ws w 0 lt)

-- a place is a word and a place in it
pub from_place : (n at : ℕ) → n / 2 ^ at ≡ n / 2 ^ (64 * (at / 64)) / 2 ^ (at % 64)
from_place n at = ap (λ (j : ℕ). n / 2 ^ j) (omega arith) ∙ sym (shr-shr n (64 * (at / 64)) (at % 64))

-- bits inside one word are read from it
pub bits_inside : (ws : List ℕ) (at width : ℕ) → AreWords ws → at / 64 < length ws → at % 64 + width ≤ 64 →
    get_or ws (at / 64) 0 / 2 ^ (at % 64) % 2 ^ width ≡ words_number ws / 2 ^ at % 2 ^ width
bits_inside ws at width h lt le =
    let e = from_place (words_number ws) at ∙ ap (λ (m : ℕ). m / 2 ^ (at % 64)) (words_number-at ws (at / 64) h lt) in
    sym (ap (λ (m : ℕ). m % 2 ^ width) e ∙ low_field (get_or ws (at / 64) 0) (words_number (drop (at / 64 + 1) ws)) (at % 64) width le)

-- a shift to the left drops the highest bits
pub shl_dropped : (y s : ℕ) → s ≤ 64 → y * 2 ^ (64 - s) % 2 ^ 64 ≡ y % 2 ^ s * 2 ^ (64 - s)
shl_dropped y s le =
    let n = y * 2 ^ (64 - s) in
    let whole : 64 ≡ s + (64 - s) = omega arith in
    let e : n % 2 ^ 64 ≡ (n / 2 ^ (64 - s) % 2 ^ s) * 2 ^ (64 - s) + n % 2 ^ (64 - s) = ap (λ (j : ℕ). n % 2 ^ j) whole ∙ mod-pow-add n s (64 - s) in
    let f : n / 2 ^ (64 - s) ≡ y = shl-shr y (64 - s) in
    let g : n % 2 ^ (64 - s) ≡ 0 = mul-mod_left y (2 ^ (64 - s)) in
    e ∙ ap (λ (q : ℕ). q % 2 ^ s * 2 ^ (64 - s) + n % 2 ^ (64 - s)) f ∙ omega (arith, g)

-- the bits of a word, and above them the lowest bits of another
or_above : (x y s : ℕ) → x < 2 ^ 64 → s ≤ 64 → bit_or (x / 2 ^ s) (y * 2 ^ (64 - s) % 2 ^ 64) ≡ y % 2 ^ s * 2 ^ (64 - s) + x / 2 ^ s
or_above x y s xlt le =
    let whole : 64 ≡ (64 - s) + s = omega arith in
    let low : x / 2 ^ s < 2 ^ (64 - s) = shr_below x (64 - s) s (subst (λ (j : ℕ). x < 2 ^ j) whole xlt) in
    ap (λ (q : ℕ). bit_or (x / 2 ^ s) q) (shl_dropped y s le) ∙ or_comm (x / 2 ^ s) (y % 2 ^ s * 2 ^ (64 - s))
    ∙ or_shifted (y % 2 ^ s) (64 - s) (x / 2 ^ s) low

-- the end of one word and the beginning of the next
two_words : (x y z s width : ℕ) → x < 2 ^ 64 → 0 < s → s < 64 → width ≤ 64 →
    bit_or (x / 2 ^ s) (y * 2 ^ (64 - s) % 2 ^ 64) % 2 ^ width ≡ (x + 2 ^ 64 * (y + 2 ^ 64 * z)) / 2 ^ s % 2 ^ width
two_words x y z s width xlt pos lt le =
    let p = 2 ^ (64 - s) in
    let joined = or_above x y s xlt (omega arith) in
    let shifted : (x + 2 ^ 64 * (y + 2 ^ 64 * z)) / 2 ^ s ≡ x / 2 ^ s + p * (y + 2 ^ 64 * z) = div-add-multiple x (y + 2 ^ 64 * z) 64 s (omega arith) in
    let y_parts : y ≡ y % 2 ^ s + 2 ^ s * (y / 2 ^ s) = sym (Rattle.std.proofs.Math.Nat.mod-add-div y (2 ^ s)) in
    let e1 = ap (λ (q : ℕ). p * q) y_parts in
    let e2 = ap (λ (q : ℕ). q * (y / 2 ^ s)) (power_split 64 s (omega arith)) in
    let sum : x / 2 ^ s + p * (y + 2 ^ 64 * z) ≡ (y % 2 ^ s * p + x / 2 ^ s) + 2 ^ 64 * (y / 2 ^ s + p * z) = omega (arith, e1, e2) in
    ap (λ (q : ℕ). q % 2 ^ width) joined
    ∙ sym (ap (λ (q : ℕ). q % 2 ^ width) (shifted ∙ sum) ∙ mod-add-multiple (y % 2 ^ s * p + x / 2 ^ s) (y / 2 ^ s + p * z) 64 width le)

-- bits across two words are the end of one and the beginning of the next
pub bits_across : (ws : List ℕ) (at width : ℕ) → AreWords ws → at / 64 + 1 < length ws → 0 < at % 64 → width ≤ 64 →
    bit_or (get_or ws (at / 64) 0 / 2 ^ (at % 64)) (get_or ws (at / 64 + 1) 0 * 2 ^ (64 - at % 64) % 2 ^ 64) % 2 ^ width
    ≡ words_number ws / 2 ^ at % 2 ^ width
unfolding words_number
bits_across ws at width h lt pos le =
    let first_lt : at / 64 < length ws = omega arith in
    let second : words_number (drop (at / 64 + 1) ws) ≡ get_or ws (at / 64 + 1) 0 + 2 ^ 64 * words_number (drop (at / 64 + 1 + 1) ws) =
    ap words_number (drop_more ws (at / 64 + 1) 0 lt) in
    let e = from_place (words_number ws) at
    ∙ ap (λ (m : ℕ). m / 2 ^ (at % 64)) (words_number-at ws (at / 64) h first_lt ∙ ap (λ (m : ℕ). get_or ws (at / 64) 0 + 2 ^ 64 * m) second) in
    two_words (get_or ws (at / 64) 0) (get_or ws (at / 64 + 1) 0) (words_number (drop (at / 64 + 1 + 1) ws)) (at % 64) width (h (at / 64)) pos
    (omega arith) le ∙ sym (ap (λ (m : ℕ). m % 2 ^ width) e)

-- bits inside one word, whatever stands above them
below_others : (x y s width : ℕ) → x < 2 ^ 64 → s + width ≤ 64 →
    bit_or (x / 2 ^ s) (y * 2 ^ (64 - s) % 2 ^ 64) % 2 ^ width ≡ x / 2 ^ s % 2 ^ width
below_others x y s width xlt le =
    let sum : y % 2 ^ s * 2 ^ (64 - s) + x / 2 ^ s ≡ x / 2 ^ s + 2 ^ (64 - s) * (y % 2 ^ s) = omega arith in
    ap (λ (q : ℕ). q % 2 ^ width) (or_above x y s xlt (omega arith) ∙ sum) ∙ mod-add-multiple (x / 2 ^ s) (y % 2 ^ s) (64 - s) width (omega arith)

-- bits from the words of the first one and of the last one
pub bits_joined : (ws : List ℕ) (at width last : ℕ) → AreWords ws → 0 < width → width ≤ 64 → at + width ≤ 64 * length ws →
    last ≡ at / 64 + (at % 64 + width - 1) / 64 →
    bit_or (get_or ws (at / 64) 0 / 2 ^ (at % 64)) (get_or ws last 0 * 2 ^ (64 - at % 64) % 2 ^ 64) % 2 ^ width
    ≡ words_number ws / 2 ^ at % 2 ^ width
bits_joined ws at width last h some wide within last_is =
    let x = get_or ws (at / 64) 0 in
    elim (cases_lt 64 (at % 64 + width)) [
      | inl across ↦
          let next : last ≡ at / 64 + 1 = omega (arith, last_is, across, some, wide) in
          let second = ap (λ (k : ℕ). bit_or (x / 2 ^ (at % 64)) (get_or ws k 0 * 2 ^ (64 - at % 64) % 2 ^ 64) % 2 ^ width) next in
          second ∙ bits_across ws at width h (omega (arith, across, within)) (omega (arith, across, wide)) wide
      | inr inside ↦
          below_others x (get_or ws last 0) (at % 64) width (h (at / 64)) inside
          ∙ bits_inside ws at width h (omega (arith, some, within)) inside
    ]

-- a product's rest needs the rest alone
mul_mod : (a m q : ℕ) → a % m * q % m ≡ a * q % m
mul_mod a m q =
    let e = ap (λ (x : ℕ). x * q) (sym (Rattle.std.proofs.Math.Nat.mod-add-div a m)) in
    let f : a * q ≡ a % m * q + m * (a / m * q) = omega (arith, e) in
    sym (ap (λ (x : ℕ). x % m) f ∙ add-mul-mod_self_left (a % m * q) m (a / m * q))

-- a shift by one and then by the rest
pub shl_twice : (y s : ℕ) → s < 64 → y * 2 ^ 1 % 2 ^ 64 * 2 ^ (63 - s) % 2 ^ 64 ≡ y * 2 ^ (64 - s) % 2 ^ 64
shl_twice y s lt =
    let both : 2 ^ (64 - s) ≡ 2 ^ 1 * 2 ^ (63 - s) = ap (λ (j : ℕ). 2 ^ j) (omega arith) ∙ pow-add 2 1 (63 - s) in
    let product : y * 2 ^ 1 * 2 ^ (63 - s) ≡ y * 2 ^ (64 - s) = omega (arith, ap (λ (q : ℕ). y * q) both) in
    mul_mod (y * 2 ^ 1) (2 ^ 64) (2 ^ (63 - s)) ∙ ap (λ (q : ℕ). q % 2 ^ 64) product
