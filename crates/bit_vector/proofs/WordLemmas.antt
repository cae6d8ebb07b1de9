-- A run of 64-bit words beside the number that it spells in base 2 ^ 64.
use Rattle.std.proofs.Common.{◌≡◌, ℕ, zero, suc, ◌+◌, ◌*◌, ◌/◌, ◌%◌, ◌^◌, ◌<◌, List, [], ◌∷◌, ◌++◌, length, get_or}
use Rattle.std.proofs.Common.{take, drop, set, refl, sym, ap, ◌∙◌, arith}
use Rattle.std.specs.List.{sum_by}
use Rattle.std.specs.Int.RustNames.{count_ones}
use Rattle.std.proofs.Math.Nat.{pow-suc, div-one, mod-one}
use Rattle.std.proofs.lemmas.Nat.{pow-add, shr-shr, mod-pow-add, ones_cat}
use Rattle.std.proofs.lemmas.List.Sums.{sum_by-cons}
use Rattle.bit_vector.specs.Bits.{words_number, words_from}

-- each word is below 2 ^ 64
abbrev pub AreWords : List ℕ → Type 0
AreWords ws = (i : ℕ) → get_or ws i 0 < 2 ^ 64

-- the words after the first are words
AreWords-rest : (w : ℕ) (ws : List ℕ) → AreWords (w ∷ ws) → AreWords ws
AreWords-rest w ws h i = h (suc i)

-- one word more multiplies by the power of a word
pub word_power : (k : ℕ) → 2 ^ (64 * suc k) ≡ 2 ^ 64 * 2 ^ (64 * k)
word_power k = ap (λ (j : ℕ). 2 ^ j) (omega arith) ∙ pow-add 2 64 (64 * k)

-- no words have the power one
word_power_zero : 2 ^ (64 * 0) ≡ 1
word_power_zero = refl

-- words behind others count from their place on
pub words_number-append : (xs ys : List ℕ) → words_number (xs ++ ys) ≡ words_number xs + 2 ^ (64 * length xs) * words_number ys
unfolding words_number
words_number-append [] ys = omega arith
words_number-append (x ∷ xs) ys =
    let e = words_number-append xs ys in
    let p = ap (λ (q : ℕ). q * words_number ys) (word_power (length xs)) in
    omega (arith, e, p)

-- a word behind others counts from its place on
pub words_number-push : (xs : List ℕ) (y : ℕ) → words_number (xs ++ y ∷ []) ≡ words_number xs + 2 ^ (64 * length xs) * y
unfolding words_number
words_number-push xs y = words_number-append xs (y ∷ []) ∙ ap (λ (q : ℕ). words_number xs + 2 ^ (64 * length xs) * q) (omega arith)

-- what is left after the first words is the number shifted
pub words_number-drop : (k : ℕ) (xs : List ℕ) → AreWords xs → words_number (drop k xs) ≡ words_number xs / 2 ^ (64 * k)
unfolding words_number
words_number-drop zero xs h = sym (div-one (words_number xs))
words_number-drop (suc k) [] h = omega (arith, Rattle.std.proofs.Math.Nat.zero-div (2 ^ (64 * suc k)))
words_number-drop (suc k) (x ∷ xs) h =
    let n = words_number xs in
    let first : (x + 2 ^ 64 * n) / 2 ^ 64 ≡ n = omega (arith, h 0) in
    words_number-drop k xs (AreWords-rest x xs h) ∙ ap (λ (m : ℕ). m / 2 ^ (64 * k)) (sym first) ∙ shr-shr (x + 2 ^ 64 * n) 64 (64 * k)
    ∙ ap (λ (j : ℕ). (x + 2 ^ 64 * n) / 2 ^ j) (omega arith)

-- the first words are the number's rest
pub words_number-take : (k : ℕ) (xs : List ℕ) → AreWords xs → words_number (take k xs) ≡ words_number xs % 2 ^ (64 * k)
unfolding words_number
words_number-take zero xs h = sym (mod-one (words_number xs))
words_number-take (suc k) [] h = sym (Rattle.std.proofs.Math.Nat.zero-mod (2 ^ (64 * suc k)))
words_number-take (suc k) (x ∷ xs) h =
    let n = words_number xs in
    let m = x + 2 ^ 64 * n in
    let high : m / 2 ^ 64 ≡ n = omega (arith, h 0) in
    let low : m % 2 ^ 64 ≡ x = omega (arith, h 0) in
    let parts : m % 2 ^ (64 * suc k) ≡ (m / 2 ^ 64 % 2 ^ (64 * k)) * 2 ^ 64 + m % 2 ^ 64 = ap (λ (j : ℕ). m % 2 ^ j) (omega arith)
    ∙ mod-pow-add m (64 * k) 64 in
    let inner : m / 2 ^ 64 % 2 ^ (64 * k) ≡ words_number (take k xs) = ap (λ (j : ℕ). j % 2 ^ (64 * k)) high
    ∙ sym (words_number-take k xs (AreWords-rest x xs h)) in
    omega (arith, parts, inner, low)

-- a word that is replaced changes the number by the difference at its place
pub words_number-set : (xs : List ℕ) (k y : ℕ) → k < length xs →
    words_number (set xs k y) + get_or xs k 0 * 2 ^ (64 * k) ≡ words_number xs + y * 2 ^ (64 * k)
unfolding words_number
words_number-set [] k y lt = absurd (omega arith)
words_number-set (x ∷ xs) zero y lt = omega arith
words_number-set (x ∷ xs) (suc k) y lt =
    let e = words_number-set xs k y (omega arith) in
    let p = ap (λ (q : ℕ). get_or xs k 0 * q) (word_power k) in
    let r = ap (λ (q : ℕ). y * q) (word_power k) in
    omega (arith, e, p, r)

-- words stand for a number below the power of their bits
pub words_number-lt : (xs : List ℕ) → AreWords xs → words_number xs < 2 ^ (64 * length xs)
unfolding words_number
words_number-lt [] h = omega arith
words_number-lt (x ∷ xs) h = omega (arith, h 0, words_number-lt xs (AreWords-rest x xs h), word_power (length xs))

-- the words of the number of words are these words
pub words_from-words_number : (xs : List ℕ) → AreWords xs → words_from (length xs) (words_number xs) ≡ xs
unfolding words_from words_number
words_from-words_number [] h = refl
words_from-words_number (x ∷ xs) h =
    let n = words_number xs in
    let low : (x + 2 ^ 64 * n) % 2 ^ 64 ≡ x = omega (arith, h 0) in
    let high : (x + 2 ^ 64 * n) / 2 ^ 64 ≡ n = omega (arith, h 0) in
    ap (λ (q : ℕ). q ∷ words_from (length xs) ((x + 2 ^ 64 * n) / 2 ^ 64)) low ∙ ap (λ (q : ℕ). x ∷ words_from (length xs) q) high
    ∙ ap (λ (ws : List ℕ). x ∷ ws) (words_from-words_number xs (AreWords-rest x xs h))

-- the ones of the number of words are those of each
pub count_ones-words : (xs : List ℕ) → AreWords xs → count_ones (words_number xs) ≡ sum_by count_ones xs
unfolding words_number
count_ones-words [] h = unfold count_ones in refl
count_ones-words (x ∷ xs) h =
    let n = words_number xs in
    let turned : x + 2 ^ 64 * n ≡ n * 2 ^ 64 + x = omega arith in
    ap count_ones turned ∙ ones_cat 64 n x (h 0) ∙ omega (arith, count_ones-words xs (AreWords-rest x xs h), sum_by-cons count_ones x xs)
