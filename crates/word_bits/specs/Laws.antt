-- What setting one bit does to that bit and to the others.
use Rattle.std.proofs.Common.{◌≡◌, ◌≢◌, ℕ, ◌+◌, ◌*◌, ◌/◌, ◌%◌, ◌^◌, ◌<◌, max, true}
use Rattle.std.proofs.Common.{List, length, get_or, set, eqb, refl, ap, ◌∙◌, inl, inr, arith}
use Rattle.std.specs.Int.{bit_at}
use Rattle.std.specs.Prelude.{bit_or}
use Rattle.std.proofs.lemmas.Bool.{cases_eq, cases_lt}
use Rattle.std.proofs.lemmas.List.{get_or-set_same, get_or-set_other, length-set, set_past}
use Rattle.std.proofs.lemmas.Nat.{one_shl}
use Rattle.std.proofs.lemmas.Nat.Bits.{bit_at_or, bit_at-pow_same, bit_at-pow_other, bit_at-lt}
use Rattle.word_bits.specs.Bits.{word_of, is_set, set_bit}

-- or with a power of two sets that bit
or_same : (n k : ℕ) → bit_at (bit_or n (2 ^ k)) k ≡ 1
or_same n k = bit_at_or n (2 ^ k) k ∙ ap (λ x. max (bit_at n k) x) (bit_at-pow_same k) ∙ omega (arith, bit_at-lt n k)

-- and no other
or_other : (n k i : ℕ) → i ≢ k → bit_at (bit_or n (2 ^ k)) i ≡ bit_at n i
or_other n k i ne = bit_at_or n (2 ^ k) i ∙ ap (λ x. max (bit_at n i) x) (bit_at-pow_other k i ne) ∙ omega arith

-- the bit itself
pub is_set-set_same : (words : List ℕ) (first q : ℕ) → word_of first q < length words → is_set (set_bit words first q) first q ≡ true
is_set-set_same words first q lt =
    let word : ℕ = get_or words (first + q / 64) 0 in
    rw (get_or-set_same words (first + q / 64) (bit_or word (2 ^ (q % 64))) 0 lt, or_same word (q % 64)) refl

-- another bit of the same word
same_word : (words : List ℕ) (w i k : ℕ) → i ≢ k →
    bit_at (get_or (set words w (bit_or (get_or words w 0) (2 ^ k))) w 0) i ≡ bit_at (get_or words w 0) i
same_word words w i k ne =
    elim (cases_lt w (length words)) [
      | inl lt ↦ rw (get_or-set_same words w (bit_or (get_or words w 0) (2 ^ k)) 0 lt) (or_other (get_or words w 0) k i ne)
      | inr le ↦ rw (set_past words w (bit_or (get_or words w 0) (2 ^ k)) le) refl
    ]

-- another bit of the words
other_bit : (words : List ℕ) (first p q : ℕ) → p ≢ q →
    bit_at (get_or (set_bit words first q) (first + p / 64) 0) (p % 64) ≡ bit_at (get_or words (first + p / 64) 0) (p % 64)
other_bit words first p q ne =
    elim (cases_eq (p / 64) (q / 64)) [
      | inl e ↦
          let apart : p % 64 ≢ q % 64 = λ same. ne (omega (arith, same, e)) in
          rw e (same_word words (first + q / 64) (p % 64) (q % 64) apart)
      | inr d ↦
          let apart : first + p / 64 ≢ first + q / 64 = λ same. d (omega (arith, same)) in
          rw (get_or-set_other words (first + q / 64) (first + p / 64) (bit_or (get_or words (first + q / 64) 0) (2 ^ (q % 64))) 0 apart) refl
    ]

-- another bit
pub is_set-set_other : (words : List ℕ) (first p q : ℕ) → p ≢ q → is_set (set_bit words first q) first p ≡ is_set words first p
is_set-set_other words first p q ne = ap (λ b. eqb b 1) (other_bit words first p q ne)

-- a bit that is set stays set
pub is_set-set_stays : (words : List ℕ) (first p q : ℕ) → is_set words first p ≡ true → is_set (set_bit words first q) first p ≡ true
is_set-set_stays words first p q h =
    elim (cases_eq p q) [
      | inl e ↦
          elim (cases_lt (first + q / 64) (length words)) [
            | inl lt ↦ rw e (is_set-set_same words first q lt)
            | inr le ↦ rw (set_past words (first + q / 64) (bit_or (get_or words (first + q / 64) 0) (2 ^ (q % 64))) le) h
          ]
      | inr ne ↦ is_set-set_other words first p q ne ∙ h
    ]

-- as many words as before
pub length-set_bit : (words : List ℕ) (first q : ℕ) → length (set_bit words first q) ≡ length words
length-set_bit words first q = length-set words (first + q / 64) (bit_or (get_or words (first + q / 64) 0) (2 ^ (q % 64)))

-- what `words[w] |= 1 << k` writes
pub one_shl-word : (k : ℕ) → k < 64 → 1 * 2 ^ k % 2 ^ 64 ≡ 2 ^ k
one_shl-word k h = one_shl k 64 h
