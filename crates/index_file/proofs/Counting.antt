-- What reading a mark and the numbers of keys gives, by their tests.
use Rattle.std.specs.Prelude.{◌≡◌, ℕ, ◌+◌, ◌-◌, ◌*◌, ◌<◌, ◌≤◌, List, ◌++◌, [], length, take, drop, sum, Some, Ok, Err}
use Rattle.std.specs.Int.{w64, from_le_bytes}
use Rattle.std.proofs.Common.{refl, sym, ap, ◌∙◌, subst, arith}
use Rattle.std.proofs.lemmas.Bool.{lt-ltb, le-ltb, eq-eqb, ne_eqb}
use Rattle.std.proofs.lemmas.List.{take_rest, drop-drop, length-drop}
use Rattle.elias_fano.specs.Reading.{words_in}
use Rattle.elias_fano.specs.Values.{below_len}
use Rattle.elias_fano.proofs.CallerLemmas.{length-words_in, below_len-most}
use Rattle.index_text.specs.declared.fault.IndexFault.TheVariants as faults
use Rattle.index_text.specs.Fields.{word_at, mark_at, counts_at}

-- a place from the bytes that are left there
pub place_is : (bytes : List ℕ) (at : ℕ) → at ≤ length bytes → length bytes - length (drop at bytes) ≡ at
place_is bytes at within = omega (arith, length-drop at bytes)

-- the bytes from a place on as a slice
abbrev pub slice_from : List ℕ → ℕ → List ℕ
slice_from bytes at = take (length bytes - at) (drop at bytes)

-- words that were read into a list that was empty, of the bytes from a place on
pub record AreWords (bytes : List ℕ) (at parts : ℕ) (words : List ℕ) : Type 0 where
  pub within : at ≤ length bytes
  pub long : 8 * parts ≤ length (slice_from bytes at)
  pub are : words ≡ words_in parts (drop at bytes)

-- they are as many as was asked for
pub AreWords-length : (bytes : List ℕ) (at parts : ℕ) (words : List ℕ) → AreWords bytes at parts words → length words ≡ parts
AreWords-length bytes at parts words w = ap length w.are ∙ length-words_in parts (drop at bytes)

-- and stand in the bytes from the place on
AreWords-long : (bytes : List ℕ) (at parts : ℕ) (words : List ℕ) → AreWords bytes at parts words → 8 * parts ≤ length (drop at bytes)
AreWords-long bytes at parts words w = subst (λ (t : List ℕ). 8 * parts ≤ length t) (take_rest bytes at) w.long

-- so the place after them is within the bytes
pub AreWords-within : (bytes : List ℕ) (at parts : ℕ) (words : List ℕ) → AreWords bytes at parts words → at + 8 * parts ≤ length bytes
AreWords-within bytes at parts words w = omega (arith, AreWords-long bytes at parts words w, length-drop at bytes, w.within)

-- words that were appended to none
pub words_read : (bytes : List ℕ) (at parts : ℕ) (new old : List ℕ) → at ≤ length bytes → 8 * parts ≤ length (slice_from bytes at) →
    old ≡ [] →
    new ≡ old ++ words_in parts (slice_from bytes at) → AreWords bytes at parts new
words_read bytes at parts new old within long none read = record {
  within = within;
  long = long;
  are = read ∙ (λ i. none i ++ words_in parts (take_rest bytes at i));
}

-- a number of keys that is too great
pub counts_at-field : (n parts few : ℕ) (bytes : List ℕ) (at : ℕ) (words : List ℕ) → AreWords bytes at parts words →
    few ≡ below_len 67108865 words →
    few < parts → counts_at (length bytes) n parts (drop at bytes) ≡ Err (faults.Field (at + 8 * few))
unfolding counts_at
counts_at-field n parts few bytes at words w is low =
    let ws = words_in parts (drop at bytes) in
    let same : few ≡ below_len 67108865 ws = is ∙ ap (λ (ks : List ℕ). below_len 67108865 ks) w.are in
    let less : below_len 67108865 ws < length ws = omega (arith, length-words_in parts (drop at bytes)) in
    rw (le-ltb (length (drop at bytes)) (8 * parts) (AreWords-long bytes at parts words w), lt-ltb (below_len 67108865 ws) (length ws) less)
    (λ i. Err (faults.Field (place_is bytes at w.within i + 8 * sym same i)))

-- all numbers of keys are small
pub AreWords-small : (bytes : List ℕ) (at parts few : ℕ) (words : List ℕ) → AreWords bytes at parts words → few ≡ below_len 67108865 words →
    parts ≤ few → below_len 67108865 words ≡ length words
AreWords-small bytes at parts few words w is high = omega (arith, AreWords-length bytes at parts words w, below_len-most 67108865 words)

-- a sum that is another
pub counts_at-sum : (n parts few : ℕ) (bytes : List ℕ) (at : ℕ) (words : List ℕ) → AreWords bytes at parts words →
    few ≡ below_len 67108865 words →
    parts ≤ few → (sum words ≡ n → ⊥) → counts_at (length bytes) n parts (drop at bytes) ≡ Err (faults.Count n (sum words))
unfolding counts_at
counts_at-sum n parts few bytes at words w is high other =
    let ws = words_in parts (drop at bytes) in
    let all = AreWords-small bytes at parts few words w is high in
    let none : length ws ≤ below_len 67108865 ws =
    subst (λ (ks : List ℕ). length ks ≤ below_len 67108865 ks) w.are (omega (arith, all)) in
    let differs : sum ws ≡ n → ⊥ = λ e. other (ap sum w.are ∙ e) in
    rw (
      le-ltb (length (drop at bytes)) (8 * parts) (AreWords-long bytes at parts words w),
      le-ltb (below_len 67108865 ws) (length ws) none,
      ne_eqb (sum ws) n differs,
    ) (ap (λ (ks : List ℕ). Err (faults.Count n (sum ks))) (sym w.are))

-- numbers of keys without a fault
pub counts_at-ok : (n parts few : ℕ) (bytes : List ℕ) (at : ℕ) (words : List ℕ) → AreWords bytes at parts words →
    few ≡ below_len 67108865 words →
    parts ≤ few → sum words ≡ n → counts_at (length bytes) n parts (drop at bytes) ≡ Ok (words, drop (at + 8 * parts) bytes)
unfolding counts_at
counts_at-ok n parts few bytes at words w is high adds =
    let ws = words_in parts (drop at bytes) in
    let all = AreWords-small bytes at parts few words w is high in
    let none : length ws ≤ below_len 67108865 ws =
    subst (λ (ks : List ℕ). length ks ≤ below_len 67108865 ks) w.are (omega (arith, all)) in
    let same : sum ws ≡ n = sym (ap sum w.are) ∙ adds in
    rw (
      le-ltb (length (drop at bytes)) (8 * parts) (AreWords-long bytes at parts words w),
      le-ltb (below_len 67108865 ws) (length ws) none,
      eq-eqb (sum ws) n same,
    ) (λ i. Ok (sym w.are i, drop-drop (8 * parts) at bytes i))

-- a mark that stands at a place
pub mark_at-some : (version : ℕ) (bytes : List ℕ) (at sum_is xor_is : ℕ) → at ≤ length bytes → at + 16 ≤ length bytes → version ≡ 2 →
    sum_is ≡ word_at at bytes → xor_is ≡ word_at (at + 8) bytes →
    mark_at version (drop at bytes) ≡ Ok (Some (record { sum = sum_is; xor = xor_is }), drop (at + 16) bytes)
unfolding mark_at
mark_at-some version bytes at sum_is xor_is within long marked s x =
    let some : 16 ≤ length (drop at bytes) = omega (arith, length-drop at bytes) in
    let xor : word_at 8 (drop at bytes) ≡ xor_is = ap (λ (t : List ℕ). from_le_bytes w64 (take 8 t)) (drop-drop 8 at bytes) ∙ sym x in
    rw (eq-eqb version 2 marked, le-ltb (length (drop at bytes)) 16 some) (λ i. Ok (Some (record { sum = sym s i; xor = xor i }), drop-drop 16 at bytes i))

-- too few bytes for so many numbers
pub counts_at-short : (n parts : ℕ) (bytes : List ℕ) (at : ℕ) → at ≤ length bytes → length (slice_from bytes at) < 8 * parts →
    counts_at (length bytes) n parts (drop at bytes) ≡ Err faults.Short
unfolding counts_at
counts_at-short n parts bytes at within short =
    let less : length (drop at bytes) < 8 * parts = subst (λ (t : List ℕ). length t < 8 * parts) (take_rest bytes at) short in
    rw (lt-ltb (length (drop at bytes)) (8 * parts) less) refl
