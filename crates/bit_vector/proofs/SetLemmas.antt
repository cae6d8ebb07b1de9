-- One bit that is set, and words that have none.
use Rattle.std.proofs.Common.{◌≡◌, ℕ, zero, suc, ◌+◌, ◌*◌, ◌/◌, ◌%◌, ◌^◌, ◌<◌, ◌≤◌, Bool, true, false, cond, eqb, List}
use Rattle.std.proofs.Common.{[], ◌∷◌, length, get_or, set}
use Rattle.std.proofs.Common.{replicate, refl, sym, ap, ◌∙◌, subst, inl, inr, arith}
use Rattle.std.specs.Prelude.{bit_or}
use Rattle.std.specs.Int.{bit_at}
use Rattle.std.specs.Int.Bits.{or_add_and}
use Rattle.std.proofs.Math.Nat.{pow-suc, mod-eq_of_lt}
use Rattle.std.proofs.lemmas.Bool.{cases_eq, eq-eqb, ne_eqb}
use Rattle.std.proofs.lemmas.Nat.{pow_pos, pow-add, one_shl, or_lt}
use Rattle.std.proofs.lemmas.Nat.Bits.{bit_at-lt, and_pow}
use Rattle.std.proofs.lemmas.List.{length-set, get_or_read, length-replicate}
use Rattle.bit_vector.specs.Bits.{bits_of, number_of, words_number, words_for, IsPacked}
use Rattle.bit_vector.proofs.BitLemmas.{length-bits_of, number_of-bits_of, bits_of-number_of, number_of-lt, get_or-bits_of}
use Rattle.bit_vector.proofs.WordLemmas.{AreWords, words_number-set}
use Rattle.bit_vector.proofs.ReadLemmas.{bits_inside}
use Rattle.bit_vector.proofs.PackLemmas.{AreWords-set}

-- setting a bit adds its power where it was clear
number_of-set : (bs : List Bool) (k : ℕ) → k < length bs → number_of (set bs k true) + cond (get_or bs k false) 1 0 * 2 ^ k ≡ number_of bs + 2 ^ k
unfolding number_of
number_of-set [] k lt = absurd (omega arith)
number_of-set (true ∷ bs) zero lt = omega arith
number_of-set (false ∷ bs) zero lt = omega arith
number_of-set (b ∷ bs) (suc k) lt =
    let e = number_of-set bs k (omega arith) in
    let p : 2 ^ suc k ≡ 2 ^ k * 2 = pow-suc 2 k in
    let c = ap (λ (q : ℕ). cond (get_or bs k false) 1 0 * q) p in
    omega (arith, e, p, c)

-- the same of a word
or_one : (x s : ℕ) → bit_or x (2 ^ s) + bit_at x s * 2 ^ s ≡ x + 2 ^ s
or_one x s = omega (arith, or_add_and x (2 ^ s), and_pow x s)

-- a bit as a truth value and back
one_if : (m : ℕ) → m < 2 → cond (eqb m 1) 1 0 ≡ m
one_if m lt =
    elim (cases_eq m 1) [
      | inl e ↦ rw (eq-eqb m 1 e) (sym e)
      | inr d ↦ rw (ne_eqb m 1 d) (omega (arith, d, lt))
    ]

-- the words once a bit is set are those of the bits with this one set
set_word : (ws : List ℕ) (len at : ℕ) → IsPacked ws len → at < len →
    words_number (set ws (at / 64) (bit_or (get_or ws (at / 64) 0) (2 ^ (at % 64)))) ≡ number_of (set (bits_of len (words_number ws)) at true)
set_word ws len at p lt =
    let k = at / 64 in
    let s = at % 64 in
    let n = words_number ws in
    let x = get_or ws k 0 in
    let y = bit_or x (2 ^ s) in
    let bs = bits_of len n in
    let b = bit_at x s in
    let in_words : k < length ws = omega (arith, p.count) in
    let here : bit_at x s ≡ bit_at n at = bits_inside ws at 1 p.fit in_words (omega arith) in
    let bit : cond (get_or bs at false) 1 0 ≡ b = ap (λ (c : Bool). cond c 1 0) (get_or-bits_of at len n lt) ∙ one_if (bit_at n at) (bit_at-lt n at)
    ∙ sym here in
    let place : 2 ^ (64 * k) * 2 ^ s ≡ 2 ^ at = sym (pow-add 2 (64 * k) s) ∙ ap (λ (j : ℕ). 2 ^ j) (omega arith) in
    let whole : number_of bs ≡ n = number_of-bits_of len n ∙ mod-eq_of_lt p.clear in
    let words = words_number-set ws k y in_words in
    let one = ap (λ (q : ℕ). q * 2 ^ (64 * k)) (or_one x s) in
    let times = ap (λ (q : ℕ). b * q) place in
    let list = number_of-set bs at (omega (arith, length-bits_of len n)) in
    let same = ap (λ (q : ℕ). q * 2 ^ at) bit in
    omega (arith, words, one, place, times, list, same, whole)

-- words in which one bit more is set
pub record IsSet (ws new : List ℕ) (len at : ℕ) : Type 0 where
  pub packed : IsPacked new len
  pub bits : bits_of len (words_number new) ≡ set (bits_of len (words_number ws)) at true

-- words with one bit set are seen as the bits with this one set
bit_set : (ws : List ℕ) (len at : ℕ) → IsPacked ws len → at < len →
    IsSet ws (set ws (at / 64) (bit_or (get_or ws (at / 64) 0) (2 ^ (at % 64)))) len at
bit_set ws len at p lt =
    let k = at / 64 in
    let y = bit_or (get_or ws k 0) (2 ^ (at % 64)) in
    let bs = set (bits_of len (words_number ws)) at true in
    let n : length bs ≡ len = length-set (bits_of len (words_number ws)) at true ∙ length-bits_of len (words_number ws) in
    let value = set_word ws len at p lt in
    let in_word : at % 64 ≤ 63 = omega arith in
    let most : 2 ^ (at % 64) ≤ 2 ^ 63 = Rattle.std.proofs.Math.Nat.pow-le-pow_right (omega arith) in_word in
    let one : 2 ^ (at % 64) < 2 ^ 64 = omega (arith, most) in
    record {
      packed = record {
        count = length-set ws k y ∙ p.count;
        fit = AreWords-set ws k y p.fit (or_lt 64 (get_or ws k 0) (2 ^ (at % 64)) (p.fit k) one);
        clear = omega (arith, value, number_of-lt bs, ap (λ (j : ℕ). 2 ^ j) n);
      };
      bits = ap (λ (m : ℕ). bits_of len m) value ∙ ap (λ (j : ℕ). bits_of j (number_of bs)) (sym n) ∙ bits_of-number_of bs;
    }

-- the same of what `|=` writes
pub bit_written : (ws : List ℕ) (len at x : ℕ) → IsPacked ws len → at < len → x ≡ get_or ws (at / 64) x →
    IsSet ws (set ws (at / 64) (bit_or x (1 * 2 ^ (at % 64) % 2 ^ 64))) len at
bit_written ws len at x p lt e =
    let k = at / 64 in
    let in_words : k < length ws = omega (arith, p.count) in
    let x-is : x ≡ get_or ws k 0 = get_or_read ws k x in_words e 0 in
    let one : 1 * 2 ^ (at % 64) % 2 ^ 64 ≡ 2 ^ (at % 64) = one_shl (at % 64) 64 (omega arith) in
    subst (λ (m : ℕ). IsSet ws (set ws k (bit_or x m)) len at) (sym one)
    (subst (λ (m : ℕ). IsSet ws (set ws k (bit_or m (2 ^ (at % 64)))) len at) (sym x-is)
    (bit_set ws len at p lt))

-- clear words spell 0
words_number-zeros : (n : ℕ) → words_number (replicate n 0) ≡ 0
unfolding words_number
words_number-zeros zero = refl
words_number-zeros (suc n) = omega (arith, words_number-zeros n)

-- clear words are words
AreWords-zeros : (n : ℕ) → AreWords (replicate n 0)
AreWords-zeros zero i = omega arith
AreWords-zeros (suc n) zero = omega arith
AreWords-zeros (suc n) (suc i) = AreWords-zeros n i

-- the bits of 0 are clear
bits_of-zero : (w : ℕ) → bits_of w 0 ≡ replicate w false
unfolding bits_of
bits_of-zero zero = refl
bits_of-zero (suc w) = ap (λ (bs : List Bool). false ∷ bs) (bits_of-zero w)

-- clear words hold clear bits
pub zeros_packed : (n len : ℕ) → n ≡ words_for len → IsPacked (replicate n 0) len
zeros_packed n len e = record { count = length-replicate n 0 ∙ e; fit = AreWords-zeros n; clear = omega (arith, words_number-zeros n, pow_pos len) }

-- clear words are seen as clear bits
pub zeros_bits : (n len : ℕ) → bits_of len (words_number (replicate n 0)) ≡ replicate len false
zeros_bits n len = ap (λ (m : ℕ). bits_of len m) (words_number-zeros n) ∙ bits_of-zero len
