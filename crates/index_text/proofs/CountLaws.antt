-- What is read of a mark and of the numbers of keys is their text, and their text is read again.
use Rattle.std.specs.Prelude.{◌≡◌, ℕ, ◌+◌, ◌-◌, ◌*◌, ◌^◌, ◌<◌, ◌≤◌, cond, not, ◌==◌, nat_lt}
use Rattle.std.specs.Prelude.{List, ◌++◌, length, drop, sum, All}
use Rattle.std.specs.Prelude.{Option, Some, None, IfSome, Result, Ok, Err}
use Rattle.std.specs.List.{flat_map}
use Rattle.std.proofs.Common.{get_or, refl, sym, ap, ◌∙◌, subst, inl, inr, arith}
use Rattle.std.proofs.lemmas.Bool.{cases_lt, eqb-true, eqb-false, eq-eqb, ltb-false, le-ltb, not-false}
use Rattle.std.proofs.lemmas.List.{get_or_past, drop_at, length-append}
use Rattle.pthash.specs.declared.TheConstants.{MAX_KEYS}
use Rattle.elias_fano.specs.Spelling.{number}
use Rattle.elias_fano.specs.Reading.{words_in}
use Rattle.elias_fano.proofs.CallerLemmas.{IsBytes, IsBytes-drop, Takes, words_written, words_again, length-numbers, length-words_in}
use Rattle.build_outcome.specs.Index.{KeyMarkData}
use Rattle.build_outcome.specs.Validity.{IsMark}
use Rattle.index_text.specs.declared.fault.IndexFault.{IndexFault}
use Rattle.index_text.specs.declared.fault.IndexFault.TheVariants as faults
use Rattle.index_text.specs.declared.head.TheConstants.{UNMARKED, MARKED, MARK_LEN}
use Rattle.index_text.specs.Faults.{◌>>=◌, all_below}
use Rattle.index_text.specs.Text.{version_of, mark_numbers}
use Rattle.index_text.specs.Fields.{word_at, mark_at, add_up, counts_at}
use Rattle.index_text.proofs.Steps.{guard_ok, bind_ok, either_ok, last_ok, ok_is, all_below-ok, all_below-again}
use Rattle.index_text.proofs.Words.{word_text, word_at-lt, word_again, word_rest}

-- ---- the mark

-- a mark that was read, or that there is none
pub record MarkTaken (version : ℕ) (bytes : List ℕ) (mark : Option KeyMarkData) (rest : List ℕ) : Type 0 where
  pub taken : Takes bytes (flat_map number (mark_numbers mark)) rest
  pub fits : IfSome mark IsMark
  pub version_is : version_of mark ≡ version
  pub unmarked : mark ≡ None → version ≡ MARKED → ⊥

-- what is read as a mark is its text
pub mark_takes : (version : ℕ) (bytes : List ℕ) (mark : Option KeyMarkData) (rest : List ℕ) → IsBytes bytes → UNMARKED ≤ version →
    version ≤ MARKED →
    mark_at version bytes ≡ Ok (mark, rest) → MarkTaken version bytes mark rest
unfolding mark_at
mark_takes version bytes mark rest fits low high e =
    let there : KeyMarkData = record { sum = word_at 0 bytes; xor = word_at 8 bytes } in
    let P : Option KeyMarkData × List ℕ → Type 0 = λ p. MarkTaken version bytes p.0 p.1 in
    let more : Result (Option KeyMarkData × List ℕ) IndexFault =
    cond (nat_lt (length bytes) MARK_LEN) (Err faults.Short) (Ok (Some there, drop 16 bytes)) in
    elim (either_ok {B = Option KeyMarkData × List ℕ} (not (version == MARKED)) (None, bytes) more (mark, rest) e) [
      | inl a ↦
          let other = eqb-false version MARKED (Rattle.std.proofs.lemmas.Bool.not-true (version == MARKED) a.0) in
          subst P a.1 (record {
            taken = record { parts = refl; rest_fits = fits };
            fits = tt;
            version_is = omega arith;
            unmarked = λ none marked. other marked;
          })
      | inr b ↦
          let is = eqb-true version MARKED (not-false (version == MARKED) b.0) in
          let c = guard_ok {B = Option KeyMarkData × List ℕ} (nat_lt (length bytes) MARK_LEN) faults.Short
          (Ok (Some there, drop 16 bytes)) (mark, rest) b.1 in
          let long : 16 ≤ length bytes = ltb-false (length bytes) MARK_LEN c.0 in
          let text : bytes ≡ number there.sum ++ (number there.xor ++ drop 16 bytes) =
          word_text 0 bytes fits (omega arith) ∙ ap (λ (t : List ℕ). number there.sum ++ t) (word_text 8 bytes fits (omega arith)) in
          subst P (ok_is {A = Option KeyMarkData × List ℕ} (Some there, drop 16 bytes) (mark, rest) c.1) (record {
            taken = record { parts = text; rest_fits = IsBytes-drop 16 bytes fits };
            fits = record { sum = word_at-lt 0 bytes fits; xor = word_at-lt 8 bytes fits };
            version_is = sym is;
            unmarked = λ none marked. absurd cc;
          })
    ]

-- the text of a mark is read again
pub mark_again : (mark : Option KeyMarkData) (rest : List ℕ) → IfSome mark IsMark →
    mark_at (version_of mark) (flat_map number (mark_numbers mark) ++ rest) ≡ Ok (mark, rest)
unfolding mark_at
mark_again None rest fits = refl
mark_again (Some mark) rest fits =
    let bytes = flat_map number (mark_numbers (Some mark)) ++ rest in
    let after = number mark.xor ++ rest in
    let sum : word_at 0 bytes ≡ mark.sum = word_again 0 bytes mark.sum after refl fits.sum in
    let behind : drop 8 bytes ≡ after = refl in
    let xor : word_at 8 bytes ≡ mark.xor = word_again 8 bytes mark.xor rest behind fits.xor in
    let end : drop 16 bytes ≡ rest = word_rest 8 bytes mark.xor rest behind in
    let long : 16 ≤ length bytes = omega (arith, length-append (number mark.xor) rest) in
    rw (le-ltb (length bytes) MARK_LEN long) (λ i. Ok (Some (record { sum = sum i; xor = xor i }), end i))

-- ---- the numbers of keys

-- numbers of keys that were read
pub record CountsTaken (n parts : ℕ) (bytes counts rest : List ℕ) : Type 0 where
  pub taken : Takes bytes (flat_map number counts) rest
  pub count : length counts ≡ parts
  pub few : All (λ k. k < MAX_KEYS + 1) counts
  pub sum_is : sum counts ≡ n

-- what is read as numbers of keys is their text
pub counts_take : (total n parts : ℕ) (bytes counts rest : List ℕ) → IsBytes bytes → counts_at total n parts bytes ≡ Ok (counts, rest) →
    CountsTaken n parts bytes counts rest
unfolding counts_at
counts_take total n parts bytes counts rest fits e =
    let fault = λ (i : ℕ). faults.Field (total - length bytes + 8 * i) in
    let read : List ℕ × List ℕ = (words_in parts bytes, drop (8 * parts) bytes) in
    let a = guard_ok (nat_lt (length bytes) (8 * parts)) faults.Short (all_below (MAX_KEYS + 1) fault read >>= add_up n) (counts, rest) e in
    let b = bind_ok (all_below (MAX_KEYS + 1) fault read) (add_up n) (counts, rest) a.1 in
    let c = all_below-ok (MAX_KEYS + 1) fault read b.0 b.1 in
    let d = last_ok {B = List ℕ × List ℕ} (sum b.0.0 == n) (faults.Count n (sum b.0.0)) b.0 (counts, rest) b.2 in
    let long : 8 * parts ≤ length bytes = ltb-false (length bytes) (8 * parts) a.0 in
    let P : List ℕ × List ℕ → Type 0 = λ p. CountsTaken n parts bytes p.0 p.1 in
    let there : Takes bytes (flat_map number read.0) read.1 =
    record { parts = sym (words_written parts bytes fits long); rest_fits = IsBytes-drop (8 * parts) bytes fits } in
    let Q : List ℕ × List ℕ → Type 0 = λ p. Takes bytes (flat_map number p.0) p.1 × (length p.0 ≡ parts) in
    let moved : Q b.0 = subst Q c.same (there, length-words_in parts bytes) in
    subst P d.1 (record { taken = moved.0; count = moved.1; few = c.below; sum_is = eqb-true (sum b.0.0) n d.0 })

-- the text of numbers of keys is read again
pub counts_again : (total n : ℕ) (counts rest : List ℕ) → All (λ k. k < MAX_KEYS + 1) counts → sum counts ≡ n →
    counts_at total n (length counts) (flat_map number counts ++ rest) ≡ Ok (counts, rest)
unfolding counts_at
counts_again total n counts rest few adds =
    let bytes = flat_map number counts ++ rest in
    let fault = λ (i : ℕ). faults.Field (total - length bytes + 8 * i) in
    let long : 8 * length counts ≤ length bytes = omega (arith, length-append (flat_map number counts) rest, length-numbers counts) in
    let words : words_in (length counts) bytes ≡ counts = words_again counts rest (counts_fit counts few) in
    let end : drop (8 * length counts) bytes ≡ rest = drop_at (flat_map number counts) rest (8 * length counts) (length-numbers counts) in
    let read : all_below (MAX_KEYS + 1) fault (words_in (length counts) bytes, drop (8 * length counts) bytes) ≡ Ok (counts, rest) =
    ap (λ (p : List ℕ × List ℕ). all_below (MAX_KEYS + 1) fault p) (λ i. (words i, end i)) ∙ all_below-again (MAX_KEYS + 1) fault counts rest few in
    ap (λ b. cond b (Err faults.Short) (all_below (MAX_KEYS + 1) fault (words_in (length counts) bytes, drop (8 * length counts) bytes) >>= add_up n))
    (le-ltb (length bytes) (8 * length counts) long)
    ∙ ap (λ (r : Result (List ℕ × List ℕ) IndexFault). r >>= add_up n) read
    ∙ ap (λ b. cond b (Ok (counts, rest)) (Err (faults.Count n (sum counts)))) (eq-eqb (sum counts) n adds)
  where
    -- each count has 64 bits
    counts_fit : (ks : List ℕ) → All (λ k. k < MAX_KEYS + 1) ks → (i : ℕ) → get_or ks i 0 < 2 ^ 64
    counts_fit ks below i = elim (cases_lt i (length ks)) [
      | inl within ↦ omega (arith, below i 0 within)
      | inr past ↦ omega (arith, get_or_past ks i 0 past)
    ]
