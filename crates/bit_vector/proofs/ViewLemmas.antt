-- What packed words are seen as.
use Rattle.std.proofs.Common.{◌≡◌, ℕ, ◌+◌, ◌-◌, ◌/◌, ◌%◌, ◌^◌, ◌≤◌, List, length, take, drop, Bool, sym, ap, ◌∙◌, arith}
use Rattle.std.proofs.Math.Nat.{mod-eq_of_lt}
use Rattle.std.proofs.Math.Pow.{mod-mod-pow}
use Rattle.std.proofs.lemmas.Nat.{mod-pow-add, mod_below, pow_pos, shr_high, shr-shr}
use Rattle.bit_vector.specs.Bits.{bits_of, number_of, words_number, words_from, words_for, packed, IsPacked}
use Rattle.bit_vector.proofs.BitLemmas.{length-bits_of, take-bits_of, drop-bits_of, number_of-bits_of, bits_of-number_of}
use Rattle.bit_vector.proofs.WordLemmas.{words_from-words_number}

-- the bits of packed words are packed into these words
pub packed-bits_of : (ws : List ℕ) (len : ℕ) → IsPacked ws len → packed (bits_of len (words_number ws)) ≡ ws
packed-bits_of ws len p =
    let n = words_number ws in
    let value : number_of (bits_of len n) ≡ n = number_of-bits_of len n ∙ mod-eq_of_lt p.clear in
    ap (λ (k : ℕ). words_from (words_for k) (number_of (bits_of len n))) (length-bits_of len n)
    ∙ ap (λ (m : ℕ). words_from (words_for len) m) value
    ∙ ap (λ (k : ℕ). words_from k n) (sym p.count)
    ∙ words_from-words_number ws p.fit

-- a part of a number is the number of that part of its bits
pub bits_read : (n len at width : ℕ) → at + width ≤ len → n / 2 ^ at % 2 ^ width ≡ number_of (take width (drop at (bits_of len n)))
bits_read n len at width le =
    sym (ap (λ (bs : List Bool). number_of (take width bs)) (drop-bits_of at len n (omega arith))
    ∙ ap number_of (take-bits_of width (len - at) (n / 2 ^ at) (omega arith))
    ∙ number_of-bits_of width (n / 2 ^ at))

-- the first of two fields is what is left of both, and the second what is above it
pub two_fields : (bits : List Bool) (at w both : ℕ) → at + (w + w) ≤ length bits → both ≡ number_of (take (w + w) (drop at bits)) →
    (both % 2 ^ w ≡ number_of (take w (drop at bits))) × (both / 2 ^ w ≡ number_of (take w (drop (at + w) bits)))
two_fields bits at w both le e =
    let n = number_of bits in
    let here = n / 2 ^ at in
    let read : (k j : ℕ) → k + j ≤ length bits → n / 2 ^ k % 2 ^ j ≡ number_of (take j (drop k bits)) =
    λ k j within. bits_read n (length bits) k j within ∙ ap (λ (bs : List Bool). number_of (take j (drop k bs))) (bits_of-number_of bits) in
    let whole : both ≡ here % 2 ^ (w + w) = e ∙ sym (read at (w + w) le) in (
      ap (λ (x : ℕ). x % 2 ^ w) whole ∙ mod-mod-pow here w w ∙ read at w (omega (arith, le)),
      ap (λ (x : ℕ). x / 2 ^ w) (whole ∙ mod-pow-add here w w)
          ∙ shr_high (here / 2 ^ w % 2 ^ w) w (here % 2 ^ w) (mod_below here (2 ^ w) (pow_pos w))
          ∙ ap (λ (x : ℕ). x % 2 ^ w) (shr-shr n at w) ∙ read (at + w) w (omega (arith, le)),
    )
