-- Flags of pilots that fail: of one, of two runs joined, and of those that are left.
use Rattle.std.proofs.Common.{◌≡◌, ◌+◌, ◌-◌, ◌*◌, ◌/◌, ◌%◌, ◌^◌, ◌<◌, ◌≤◌, ◌∙◌}
use Rattle.std.proofs.Common.{ℕ, Bool, true, false, List, length, sym, ap, arith, ⊎_elim}
use Rattle.std.specs.Prelude.{not, bit_or, bit_xor, max, slice_index}
use Rattle.std.specs.Int.{bit_at, from_bool}
use Rattle.std.proofs.lemmas.Bool.{cases_lt, cases_eq}
use Rattle.std.proofs.lemmas.Nat.{shr-shr}
use Rattle.std.proofs.lemmas.Nat.Bits.{bit_at-lt, bit_at_above, bit_at_cat_low, bit_at_cat_high, bit_at_or}
use Rattle.std.specs.FinSet.{contains}
use Rattle.pthash.specs.Hash.{pilot_hash}
use Rattle.pthash.specs.Least.{FailsBelow}
use Rattle.pthash.specs.Search.{fits, pilot_fits}
use Rattle.pilot_search.specs.Flags.{FailWhereSet, is_free_under}
use Rattle.pilot_search.specs.Kept.{AreHashes}
use Rattle.pilot_search.specs.Table.{Table, positions_under}
use Rattle.pilot_search.proofs.Fitting.{known_from_not, taken_fails}

-- the flag of one number
pub one_flag : (test : ℕ → Bool) (from : ℕ) (taken : Bool) → test from ≡ not taken → FailWhereSet test from (from_bool taken)
one_flag test from false known = record { each = λ j set. absurd (omega (arith, set, bit_at_above 0 1 j (omega arith) (omega arith))) }
one_flag test from true known = record {
  each = λ j set.
      ⊎_elim
      (λ (here : j ≡ 0). let place : from + j ≡ from = omega arith in ap test place ∙ known)
      (λ (other : j ≡ 0 → ⊥). absurd (omega (arith, set, bit_at_above 1 1 j (omega arith) (omega (arith, other)))))
      (cases_eq j 0);
}

-- the flags of a run, and of the run after it
pub joined_flags : (test : ℕ → Bool) (from k low high : ℕ) → low < 2 ^ k → FailWhereSet test from low → FailWhereSet test (from + k) high →
    FailWhereSet test from (high * 2 ^ k + low)
joined_flags test from k low high bound first second = record {
  each = λ j set.
      ⊎_elim
      (λ (lower : j < k). first.each j (sym (bit_at_cat_low high k low j lower) ∙ set))
      (λ (higher : k ≤ j).
      let place : from + k + (j - k) ≡ from + j = omega arith in
      ap test (sym place) ∙ second.each (j - k) (sym (bit_at_cat_high high k low j bound higher) ∙ set))
      (cases_lt j k);
}

-- the flags of two tests, either of which fails where the whole does
pub either_flags : (test : ℕ → Bool) (from a b : ℕ) → FailWhereSet test from a → FailWhereSet test from b → FailWhereSet test from (bit_or a b)
either_flags test from a b first second = record {
  each = λ j set.
      ⊎_elim
      (λ (here : bit_at a j ≡ 1). first.each j here)
      (λ (not_here : bit_at a j ≡ 1 → ⊥). second.each j (other (bit_at a j) (bit_at b j) (bit_at-lt a j) not_here (sym (bit_at_or a b j) ∙ set)))
      (cases_eq (bit_at a j) 1);
}
  where
    other : (x y : ℕ) → x < 2 → (x ≡ 1 → ⊥) → max x y ≡ 1 → y ≡ 1
    other x y low apart both = omega (arith, low, apart, both)

-- the flags that are left past some of them
pub flags_past : (test : ℕ → Bool) (from flags k : ℕ) → FailWhereSet test from flags → FailWhereSet test (from + k + 1) (flags / 2 ^ k / 2 ^ 1)
flags_past test from flags k fail = record {
  each = λ j set.
      let place : from + k + 1 + j ≡ from + (k + 1 + j) = omega arith in
      let moved : flags / 2 ^ k / 2 ^ 1 / 2 ^ j ≡ flags / 2 ^ (k + 1 + j) = ap (λ n. n / 2 ^ j) (shr-shr flags k 1) ∙ shr-shr flags (k + 1) j in
      ap test place ∙ fail.each (k + 1 + j) (ap (λ n. n % 2) (sym moved) ∙ set);
}

-- numbers that fail up to the first whose flag is not set
pub fails_skipped : (test : ℕ → Bool) (from flags k : ℕ) → FailsBelow test from → FailWhereSet test from flags →
    ((i : ℕ) → i < k → bit_at flags i ≡ 1) → FailsBelow test (from + k)
fails_skipped test from flags k below fail ones = record {
  fails = λ j lower.
      ⊎_elim
      (λ (earlier : j < from). below.fails j earlier)
      (λ (later : from ≤ j).
      let place : from + (j - from) ≡ j = omega arith in
      ap test (sym place) ∙ fail.each (j - from) (ones (j - from) (omega arith)))
      (cases_lt j from);
}

-- whether a pilot fits, by its kept hash
pub fits_kept : (table : Table) (hashes members : List ℕ) (seed size pilot : ℕ) → size ≡ table.size →
    AreHashes seed hashes → pilot < length hashes →
    pilot_fits seed size (contains table.taken) members pilot ≡ fits (contains table.taken) (positions_under (slice_index hashes pilot) table.size members)
fits_kept table hashes members seed size pilot same kept within =
    ap (λ s. fits (contains table.taken) (positions_under (pilot_hash pilot seed) s members)) same
    ∙ ap (λ h. fits (contains table.taken) (positions_under h table.size members)) (sym (kept.each pilot within))

-- a pilot under which one member has a taken position doesn't fit
pub member_flags : (table : Table) (hashes members : List ℕ) (seed size from flags i : ℕ) → size ≡ table.size → AreHashes seed hashes →
    from + 8 ≤ length hashes → flags < 256 → i < length members → FailWhereSet (is_free_under hashes (slice_index members i) table) from flags →
    FailWhereSet (pilot_fits seed size (contains table.taken) members) from flags
member_flags table hashes members seed size from flags i same kept room bound in_range fail = record {
  each = λ j set.
      let hash : ℕ = slice_index hashes (from + j) in
      let taken = known_from_not (contains table.taken (bit_xor (slice_index members i) hash % table.size)) (fail.each j set) in
      ⊎_elim
      (λ (within : j < 8).
      fits_kept table hashes members seed size (from + j) same kept (omega arith)
      ∙ taken_fails (contains table.taken) hash table.size members i in_range taken)
      (λ (past : 8 ≤ j). absurd (omega (arith, set, bit_at_above flags 8 j bound past)))
      (cases_lt j 8);
}
