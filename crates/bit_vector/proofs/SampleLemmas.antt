-- The place of a one, and what counts and samples tell of it.
use Rattle.std.proofs.Common.{◌≡◌, ℕ, zero, suc, ◌+◌, ◌*◌, ◌-◌, ◌/◌, ◌%◌, ◌^◌, ◌<◌, ◌≤◌, List, [], ◌∷◌}
use Rattle.std.proofs.Common.{◌++◌, Bool, length, get_or, take, Option, Some}
use Rattle.std.proofs.Common.{None, refl, sym, ap, ◌∙◌, subst, inl, inr, arith}
use Rattle.std.specs.Prelude.{MatchOption, ◌⊎◌}
use Rattle.std.specs.List.{slice_get}
use Rattle.std.specs.Int.{bit_at, trailing_zeros, w64}
use Rattle.std.specs.Int.RustNames.{count_ones}
use Rattle.std.proofs.Math.Nat.{mod-one, mod-eq_of_lt, div-eq_of_lt}
use Rattle.std.proofs.lemmas.Bool.{cases_lt, eq-eqb}
use Rattle.std.proofs.lemmas.Nat.{mod-pow-add, mod_below, shr-shr}
use Rattle.std.proofs.lemmas.Nat.Bits.{bit_at-suc, bit_at_lowest, bit_at-trailing_zeros}
use Rattle.std.proofs.lemmas.List.{get_or_append_left, get_or_push, length_push}
use Rattle.bit_vector.specs.Bits.{number_of, words_number, words_from, words_for, packed, ones, places}
use Rattle.bit_vector.specs.Samples.{all_ones, IsInWord, IsOneAt, IsPassed, IsSampled}
use Rattle.std.proofs.lemmas.List.{take_all}
use Rattle.bit_vector.proofs.PackLemmas.{below_from_div}
use Rattle.bit_vector.proofs.BitLemmas.{half-mod, take-bits_of, bits_of-number_of, number_of-lt, ones-bits_of, get_or-bits_of, length-places_from}
use Rattle.bit_vector.proofs.BitLemmas.{slice_get-places_from}
use Rattle.bit_vector.proofs.WordLemmas.{AreWords, count_ones-words}
use Rattle.bit_vector.proofs.WordOnes.{no_ones, all_ones-more, ones_cut, ones_below_place}

-- the counts that are due before a word
pub record IsSoFar (words counts : List ℕ) (at : ℕ) : Type 0 where
  pub len : length counts ≡ (at + 15) / 16
  pub before : (b : ℕ) → b < length counts → get_or counts b 0 ≡ all_ones (take (16 * b) words)

-- at the first word of a block a count is due
pub count_pushed : (words counts new : List ℕ) (at total : ℕ) → at % 16 ≡ 0 → IsSoFar words counts at → total ≡ all_ones (take at words) →
    new ≡ counts ++ total ∷ [] → IsSoFar words new (at + 1)
count_pushed words counts new at total even so_far t e =
    let longer = length_push counts total in
    let more : IsSoFar words (counts ++ total ∷ []) (at + 1) = record {
      len = omega (arith, longer, so_far.len);
      before = λ b lt. elim (cases_lt b (length counts)) [
        | inl old ↦ get_or_append_left counts (total ∷ []) 0 b old ∙ so_far.before b old
        | inr last ↦
            let same : length counts ≡ b = omega (arith, longer) in
            let place : at ≡ 16 * b = omega (arith, so_far.len) in
            get_or_push counts total 0 b same ∙ t ∙ ap (λ (k : ℕ). all_ones (take k words)) place
      ];
    } in
    subst (λ (l : List ℕ). IsSoFar words l (at + 1)) (sym e) more

-- at any other word none is
pub count_kept : (words counts : List ℕ) (at : ℕ) → (at % 16 ≡ 0 → ⊥) → IsSoFar words counts at → IsSoFar words counts (at + 1)
count_kept words counts at odd so_far = record { len = omega (arith, so_far.len); before = so_far.before }

-- ---- packed bits

-- as many words as asked for are taken from a number
length-words_from : (k n : ℕ) → length (words_from k n) ≡ k
unfolding words_from
length-words_from zero n = refl
length-words_from (suc k) n = ap suc (length-words_from k (n / 2 ^ 64))

-- bits take just the words that they need
pub length-packed : (bits : List Bool) → length (packed bits) ≡ words_for (length bits)
length-packed bits = length-words_from (words_for (length bits)) (number_of bits)

-- what is taken from a number are words
AreWords-words_from : (k n : ℕ) → AreWords (words_from k n)
unfolding words_from
AreWords-words_from zero n i = omega arith
AreWords-words_from (suc k) n zero = mod_below n (2 ^ 64) (omega arith)
AreWords-words_from (suc k) n (suc i) = AreWords-words_from k (n / 2 ^ 64) i

-- what bits are packed into are words
pub AreWords-packed : (bits : List Bool) → AreWords (packed bits)
AreWords-packed bits = AreWords-words_from (words_for (length bits)) (number_of bits)

-- the words of a number stand for its rest
words_number-words_from : (k n : ℕ) → words_number (words_from k n) ≡ n % 2 ^ (64 * k)
unfolding words_number words_from
words_number-words_from zero n = sym (mod-one n)
words_number-words_from (suc k) n =
    let parts : n % 2 ^ (64 * suc k) ≡ (n / 2 ^ 64 % 2 ^ (64 * k)) * 2 ^ 64 + n % 2 ^ 64 = ap (λ (j : ℕ). n % 2 ^ j) (omega arith)
    ∙ mod-pow-add n (64 * k) 64 in
    omega (arith, parts, words_number-words_from k (n / 2 ^ 64))

-- packed bits stand for their number
pub words_number-packed : (bits : List Bool) → words_number (packed bits) ≡ number_of bits
words_number-packed bits =
    let room : 2 ^ length bits ≤ 2 ^ (64 * words_for (length bits)) = Rattle.std.proofs.Math.Nat.pow-le-pow_right (omega arith) (omega arith) in
    words_number-words_from (words_for (length bits)) (number_of bits) ∙ mod-eq_of_lt (omega (arith, number_of-lt bits))

-- the ones among the first bits are those of the number's rest
pub ones-take : (bits : List Bool) (at : ℕ) → at ≤ length bits → ones (take at bits) ≡ count_ones (number_of bits % 2 ^ at)
ones-take bits at le =
    ap (λ (bs : List Bool). ones (take at bs)) (sym (bits_of-number_of bits)) ∙ ap ones (take-bits_of at (length bits) (number_of bits) le)
    ∙ ones-bits_of at (number_of bits)

-- packing keeps the ones
pub all_ones-packed : (bits : List Bool) → all_ones (packed bits) ≡ ones bits
all_ones-packed bits =
    sym (count_ones-words (packed bits) (AreWords-packed bits)) ∙ ap count_ones (words_number-packed bits ∙ sym (mod-eq_of_lt (number_of-lt bits)))
    ∙ sym (ones-bits_of (length bits) (number_of bits)) ∙ ap ones (bits_of-number_of bits)

-- ---- the place of a one in the list

-- nothing stands past the end
slice_get-past : (xs : List ℕ) (i : ℕ) → length xs ≤ i → slice_get xs i ≡ None
slice_get-past [] i le = refl
slice_get-past (x ∷ xs) zero le = absurd (omega arith)
slice_get-past (x ∷ xs) (suc i) le = slice_get-past xs i (omega arith)

-- a set bit of a number is below its length
within_bits : (n len p : ℕ) → n < 2 ^ len → bit_at n p ≡ 1 → p < len
within_bits n len p lt one =
    elim (cases_lt p len) [
      | inl less ↦ less
      | inr le ↦
          let larger : 2 ^ len ≤ 2 ^ p = Rattle.std.proofs.Math.Nat.pow-le-pow_right (omega arith) le in
          let none : n / 2 ^ p ≡ 0 = div-eq_of_lt (omega arith) in
          absurd (omega (arith, one, none))
    ]

-- the one of a number stands at that index of the places
one_found : (bits : List Bool) (i p : ℕ) → IsOneAt (number_of bits) i p → slice_get (places bits) i ≡ Some p
one_found bits i p at =
    let n = number_of bits in
    let lt : p < length bits = within_bits n (length bits) p (number_of-lt bits) at.one in
    let there = ap (λ (bs : List Bool). get_or bs p Rattle.std.proofs.Common.false) (sym (bits_of-number_of bits)) ∙ get_or-bits_of p (length bits) n lt
    ∙ eq-eqb (bit_at n p) 1 at.one in
    slice_get-places_from 0 bits p i lt there (ones-take bits p (omega arith) ∙ at.before) ∙ ap Some (omega arith)

-- a place that is found, or none, is what stands at that index of the places
pub select_is : (bits : List Bool) (i : ℕ) (r : Option ℕ) → MatchOption r (all_ones (packed bits) ≤ i)
    (λ p. IsOneAt (words_number (packed bits)) i p) →
    r ≡ slice_get (places bits) i
select_is bits i None h = sym (slice_get-past (places bits) i (omega (arith, length-places_from 0 bits, all_ones-packed bits, h)))
select_is bits i (Some p) h = sym (one_found bits i p (subst (λ (n : ℕ). IsOneAt n i p) (words_number-packed bits) h))

-- ---- the next one

-- a number with no bit below a place
none_below : (n t : ℕ) → ((i : ℕ) → i < t → bit_at n i ≡ 0) → n % 2 ^ t ≡ 0
none_below n zero h = mod-one n
none_below n (suc t) h =
    let low : n % 2 ≡ 0 = sym (bit_at_lowest n) ∙ h 0 (omega arith) in
    let high : n / 2 % 2 ^ t ≡ 0 = none_below (n / 2) t (λ i lt. sym (bit_at-suc n i) ∙ h (suc i) (omega arith)) in
    half-mod n t ∙ omega (arith, low, high)

-- the lowest one of a word is its first
pub lowest_one : (word : ℕ) → 0 < word → word < 2 ^ 64 → (trailing_zeros w64 word < 64) × IsOneAt word 0 (trailing_zeros w64 word)
lowest_one word some fits =
    let lowest = bit_at-trailing_zeros w64 word some fits in
    let before = ap count_ones (none_below word (trailing_zeros w64 word) lowest.2) ∙ no_ones in
    (lowest.0, record { one = lowest.1; before = before })

-- the first one above a place of a word
pub one_above : (word s q : ℕ) → IsOneAt (word / 2 ^ s) 0 q → IsOneAt word (count_ones (word % 2 ^ s)) (s + q)
one_above word s q h =
    let turned : s + q ≡ q + s = omega arith in
    record {
      one = ap (λ (m : ℕ). m % 2) (sym (shr-shr word s q)) ∙ h.one;
      before = ap (λ (j : ℕ). count_ones (word % 2 ^ j)) turned ∙ omega (arith, ones_cut word q s, h.before);
    }

-- a one of a word is below its digits
pub one_within : (word i q : ℕ) → word < 2 ^ 64 → IsOneAt word i q → q < 64
one_within word i q fits h = within_bits word 64 q fits h.one

-- the ones before a place of which nothing is left in its word
pub ones_passed : (ws : List ℕ) (at : ℕ) → AreWords ws → at / 64 < length ws → get_or ws (at / 64) 0 / 2 ^ (at % 64) ≡ 0 →
    count_ones (words_number ws % 2 ^ at) ≡ all_ones (take (at / 64 + 1) ws)
ones_passed ws at h lt none =
    let w = at / 64 in
    let small : get_or ws w 0 % 2 ^ (at % 64) ≡ get_or ws w 0 = mod-eq_of_lt (below_from_div (get_or ws w 0) (at % 64) none) in
    omega (arith, ones_below_place ws at h (omega arith), ap count_ones small, all_ones-more ws w lt)

-- all ones are before the end
pub ones_all : (ws : List ℕ) (at : ℕ) → AreWords ws → at ≤ 64 * length ws → length ws ≤ at / 64 →
    all_ones ws ≡ count_ones (words_number ws % 2 ^ at)
ones_all ws at h le past =
    let place : at ≡ 64 * length ws = omega arith in
    let count : at / 64 ≡ length ws = omega arith in
    let clear : at % 64 ≡ 0 = omega arith in
    let above = ap (λ (j : ℕ). count_ones (get_or ws (at / 64) 0 % 2 ^ j)) clear ∙ ap count_ones (mod-one (get_or ws (at / 64) 0)) ∙ no_ones in
    let whole = ap (λ (k : ℕ). all_ones (take k ws)) count ∙ ap all_ones (take_all (length ws) ws (omega arith)) in
    omega (arith, ones_below_place ws at h le, above, whole)

-- ---- one quarter of what is left of a word

-- nothing is passed
pub none_passed : (rest left size : ℕ) → left < count_ones (rest % 2 ^ size) → IsPassed rest left size 0 0
none_passed rest left size here =
    let same : size + 0 ≡ size = omega arith in record {
      ones_are = sym (ap count_ones (mod-one rest) ∙ no_ones);
      within = omega arith;
      enough = omega arith;
      here = omega (arith, here, ap (λ (j : ℕ). count_ones (rest % 2 ^ j)) same);
    }

-- some quarters are passed, up to a place
pub some_passed : (rest left size skip next : ℕ) → skip ≤ 3 * size → next ≡ size + skip →
    count_ones (rest % 2 ^ skip) ≤ left → left < count_ones (rest % 2 ^ next) → IsPassed rest left size skip (count_ones (rest % 2 ^ skip))
some_passed rest left size skip next within is enough here = record {
  ones_are = refl;
  within = within;
  enough = enough;
  here = subst (λ (j : ℕ). left < count_ones (rest % 2 ^ j)) is here;
}

-- a quarter of a span is the span before
pub quartered : (span : ℕ) → 1 < span → (span ≡ 64) ⊎ ((span ≡ 16) ⊎ ((span ≡ 4) ⊎ (span ≡ 1))) →
    (4 * (span / 4) ≡ span) × ((span / 4 ≡ 64) ⊎ ((span / 4 ≡ 16) ⊎ ((span / 4 ≡ 4) ⊎ (span / 4 ≡ 1))))
quartered span some power =
    elim power [
      | inl e ↦ (omega (arith, e), inr (inl (omega (arith, e))))
      | inr less ↦ elim less [
        | inl e ↦ (omega (arith, e), inr (inr (inl (omega (arith, e)))))
        | inr least ↦ elim least [
          | inl e ↦ (omega (arith, e), inr (inr (inr (omega (arith, e)))))
          | inr e ↦ absurd (omega (arith, some, e))
        ]
      ]
    ]

-- ---- samples

-- a sample leads to a one behind it
pub from_sample : (words samples : List ℕ) (i left at : ℕ) → IsSampled words samples → i < all_ones words →
    IsInWord words (all_ones (take (get_or samples (i / 128) 0 / 64) words) + (i % 128 + get_or samples (i / 128) 0 % 64)) at left →
    IsInWord words i at left
from_sample words samples i left at sampled lt found =
    let within : i / 128 < length samples = omega (arith, sampled.enough, lt) in
    let number = sampled.number (i / 128) within in
    record { within = found.within; number = omega (arith, found.number, number); here = found.here }

-- the ones that are noted before a word
pub record IsNoted (words samples : List ℕ) (at : ℕ) : Type 0 where
  pub within : (j : ℕ) → j < length samples → get_or samples j 0 / 64 < at
  pub number : (j : ℕ) → j < length samples → all_ones (take (get_or samples j 0 / 64) words) + get_or samples j 0 % 64 ≡ 128 * j

-- one more is noted, in that word
pub one_noted : (words samples new : List ℕ) (at total next sample : ℕ) → IsNoted words samples at → total ≡ all_ones (take at words) →
    next ≡ 128 * length samples → total ≤ next → next < total + 64 → sample ≡ 64 * at + (next - total) → new ≡ samples ++ sample ∷ [] →
    IsNoted words new (at + 1)
one_noted words samples new at total next sample noted t n due soon s e =
    let longer = length_push samples sample in
    let more : IsNoted words (samples ++ sample ∷ []) (at + 1) = record {
      within = λ j lt. elim (cases_lt j (length samples)) [
        | inl old ↦ omega (arith, get_or_append_left samples (sample ∷ []) 0 j old, noted.within j old)
        | inr last ↦
            let same : length samples ≡ j = omega (arith, longer) in
            omega (arith, get_or_push samples sample 0 j same, s)
      ];
      number = λ j lt. elim (cases_lt j (length samples)) [
        | inl old ↦ rw (get_or_append_left samples (sample ∷ []) 0 j old) (noted.number j old)
        | inr last ↦
            let same : length samples ≡ j = omega (arith, longer) in
            let word : sample / 64 ≡ at = omega (arith, s) in
            let rest : sample % 64 ≡ next - total = omega (arith, s) in
            rw (get_or_push samples sample 0 j same, word, rest) (omega (arith, t, n, due, same))
      ];
    } in
    subst (λ (l : List ℕ). IsNoted words l (at + 1)) (sym e) more

-- none is noted in a word
pub none_noted : (words samples : List ℕ) (at : ℕ) → IsNoted words samples at → IsNoted words samples (at + 1)
none_noted words samples at noted = record { within = λ j lt. omega (arith, noted.within j lt); number = noted.number }
