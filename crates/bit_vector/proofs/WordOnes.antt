-- Counts of ones over words.
use Rattle.std.proofs.Common.{◌≡◌, ℕ, zero, suc, ◌+◌, ◌*◌, ◌/◌, ◌%◌, ◌^◌, ◌<◌, ◌≤◌, List, [], ◌∷◌}
use Rattle.std.proofs.Common.{length, get_or, take, drop}
use Rattle.std.proofs.Common.{refl, sym, ap, ◌∙◌, inl, inr, arith}
use Rattle.std.specs.Int.RustNames.{count_ones}
use Rattle.std.proofs.Math.Nat.{mod-one}
use Rattle.std.proofs.lemmas.Bool.{cases_lt}
use Rattle.std.proofs.lemmas.Nat.{mod-pow-add, ones_cat, ones-le, mod_below, pow_pos}
use Rattle.std.proofs.lemmas.List.Sums.{sum_by-cons, sum_by-take-le, sum_by_more}
use Rattle.bit_vector.specs.Bits.{words_number}
use Rattle.bit_vector.specs.Samples.{all_ones, IsOneAt}
use Rattle.bit_vector.proofs.WordLemmas.{AreWords, words_number-take, count_ones-words}
use Rattle.bit_vector.proofs.ReadLemmas.{words_number-at, mod-add-multiple, bits_inside}

-- zero has no ones
pub no_ones : count_ones 0 ≡ 0
no_ones = unfold count_ones in refl

-- the words after the first are words
AreWords-rest : (w : ℕ) (ws : List ℕ) → AreWords (w ∷ ws) → AreWords ws
AreWords-rest w ws h i = h (suc i)

-- words have at most 64 ones each
pub all_ones-le : (ws : List ℕ) → AreWords ws → all_ones ws ≤ 64 * length ws
all_ones-le [] h = omega arith
all_ones-le (w ∷ ws) h = omega (arith, sum_by-cons count_ones w ws, ones-le 64 w (h 0), all_ones-le ws (AreWords-rest w ws h))

-- so have the first of them
pub all_ones-take-le : (ws : List ℕ) (k : ℕ) → AreWords ws → all_ones (take k ws) ≤ 64 * length ws
all_ones-take-le ws k h = omega (arith, sum_by-take-le count_ones ws k, all_ones-le ws h)

-- one word more adds its ones
pub all_ones-more : (ws : List ℕ) (k : ℕ) → k < length ws → all_ones (take (k + 1) ws) ≡ all_ones (take k ws) + count_ones (get_or ws k 0)
all_ones-more ws k lt = sum_by_more count_ones ws k 0 lt

-- the ones of a number, cut at a place
pub ones_cut : (n j k : ℕ) → count_ones (n % 2 ^ (j + k)) ≡ count_ones (n / 2 ^ k % 2 ^ j) + count_ones (n % 2 ^ k)
ones_cut n j k = ap count_ones (mod-pow-add n j k) ∙ ones_cat k (n / 2 ^ k % 2 ^ j) (n % 2 ^ k) (mod_below n (2 ^ k) (pow_pos k))

-- the first words are words
AreWords-take : (k : ℕ) (ws : List ℕ) → AreWords ws → AreWords (take k ws)
AreWords-take zero ws h i = omega arith
AreWords-take (suc k) [] h i = omega arith
AreWords-take (suc k) (w ∷ ws) h zero = h 0
AreWords-take (suc k) (w ∷ ws) h (suc i) = AreWords-take k ws (AreWords-rest w ws h) i

-- the lowest bits from a word's place on are those of the word
word_at : (ws : List ℕ) (w s : ℕ) → AreWords ws → 64 * w + s ≤ 64 * length ws → s < 64 →
    words_number ws / 2 ^ (64 * w) % 2 ^ s ≡ get_or ws w 0 % 2 ^ s
word_at ws w s h le lt =
    elim (cases_lt w (length ws)) [
      | inl within ↦ ap (λ (m : ℕ). m % 2 ^ s) (words_number-at ws w h within)
          ∙ mod-add-multiple (get_or ws w 0) (words_number (drop (w + 1) ws)) 64 s (omega arith)
      | inr past ↦
          let none : s ≡ 0 = omega arith in
          rw none (mod-one (words_number ws / 2 ^ (64 * w)) ∙ sym (mod-one (get_or ws w 0)))
    ]

-- the ones below a place are those of the words before and of the word's lowest bits
pub ones_below_place : (ws : List ℕ) (at : ℕ) → AreWords ws → at ≤ 64 * length ws →
    count_ones (words_number ws % 2 ^ at) ≡ all_ones (take (at / 64) ws) + count_ones (get_or ws (at / 64) 0 % 2 ^ (at % 64))
ones_below_place ws at h le =
    let w = at / 64 in
    let s = at % 64 in
    let n = words_number ws in
    let whole : at ≡ s + 64 * w = omega arith in
    let high : count_ones (n / 2 ^ (64 * w) % 2 ^ s) ≡ count_ones (get_or ws w 0 % 2 ^ s) = ap count_ones (word_at ws w s h (omega arith) (omega arith)) in
    let low : count_ones (n % 2 ^ (64 * w)) ≡ all_ones (take w ws) = ap count_ones (sym (words_number-take w ws h))
    ∙ count_ones-words (take w ws) (AreWords-take w ws h) in
    ap (λ (j : ℕ). count_ones (n % 2 ^ j)) whole ∙ ones_cut n s (64 * w) ∙ omega (arith, high, low)

-- the place of a one among the words, from its place in its word
pub one_among : (ws : List ℕ) (w q r i p : ℕ) → AreWords ws → w < length ws → q < 64 → IsOneAt (get_or ws w 0) r q →
    all_ones (take w ws) + r ≡ i →
    p ≡ 64 * w + q → IsOneAt (words_number ws) i p
one_among ws w q r i p h lt less here e at =
    let word : p / 64 ≡ w = omega arith in
    let bit : p % 64 ≡ q = omega arith in
    let inside = bits_inside ws p 1 h (omega arith) (omega arith) in
    let one : get_or ws (p / 64) 0 / 2 ^ (p % 64) % 2 ^ 1 ≡ 1 = rw (word, bit) here.one in
    let before : all_ones (take (p / 64) ws) + count_ones (get_or ws (p / 64) 0 % 2 ^ (p % 64)) ≡ i = rw (word, bit, here.before) e in
    record { one = sym inside ∙ one; before = ones_below_place ws p h (omega arith) ∙ before }
