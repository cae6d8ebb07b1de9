-- Flags of pilots that looks reject: of one, of a member, and what more looks leave of them.
use Rattle.std.proofs.Common.{◌≡◌, ◌+◌, ◌++◌, ◌*◌, ◌%◌, ◌^◌, ◌<◌, ◌≤◌, ◌∙◌, ℕ, Bool, true, false, List, length, refl, sym, ap, subst, arith, ⊎_elim}
use Rattle.std.specs.Prelude.{not, bit_xor, slice_index}
use Rattle.std.specs.Int.{from_bool}
use Rattle.std.proofs.lemmas.Bool.{cases_lt, not_from_true, false_from_ne_true, both_ways}
use Rattle.std.proofs.lemmas.Nat.Bits.{bit_at_above}
use Rattle.pthash.specs.Hash.{pilot_hash}
use Rattle.pthash.specs.Order.{bucket_at}
use Rattle.pthash.specs.Search.{SearchPlan, fits}
use Rattle.pthash.specs.SearchLaws.{fits_at, TakesMore, pilot_fits-more}
use Rattle.pilot_search.specs.Flags.{FailWhereSet}
use Rattle.pilot_search.specs.Kept.{AreHashes}
use Rattle.pilot_search.specs.Table.{positions_under}
use Rattle.pilot_search.proofs.Fitting.{known_from_not, taken_fails}
use Rattle.pilot_search.proofs.FlagLemmas.{one_flag, joined_flags}
use Rattle.turn_search.specs.declared.board.Look.{Look}
use Rattle.turn_search.specs.declared.board.View.{View}
use Rattle.turn_search.specs.Looks.{found_taken, is_open_under}
use Rattle.turn_search.specs.Passes.{OnlyLooked, LooksAt}
use Rattle.turn_search.proofs.MoreLooks.{taken_left, look_taken}

-- the flag of a number that fails where it is set
pub known_flag : (test : ℕ → Bool) (from : ℕ) (set : Bool) → (set ≡ true → test from ≡ false) → FailWhereSet test from (from_bool set)
known_flag test from false fails = record { each = λ j is. absurd (omega (arith, is, bit_at_above 0 1 j (omega arith) (omega arith))) }
known_flag test from true fails = one_flag test from true (fails refl)

-- numbers that fail a test fail one that is stronger
pub flags_stronger : (test stronger : ℕ → Bool) (from flags : ℕ) → ((i : ℕ) → test i ≡ false → stronger i ≡ false) →
    FailWhereSet test from flags → FailWhereSet stronger from flags
flags_stronger test stronger from flags implies fail = record { each = λ j set. implies (from + j) (fail.each j set) }

-- what looks found taken is found so after more looks
taken_on : (before after : View) (p : ℕ) → OnlyLooked before after → found_taken before.looks p ≡ true → found_taken after.looks p ≡ true
taken_on before after p looked found =
    ap (λ v. found_taken v.looks p) looked.view ∙ taken_left before.looks looked.more p found

-- the flags of a member after more looks
pub open_on : (before after : View) (hashes : List ℕ) (member size from flags : ℕ) → OnlyLooked before after →
    FailWhereSet (is_open_under before.looks hashes member size) from flags → FailWhereSet (is_open_under after.looks hashes member size) from flags
open_on before after hashes member size from flags looked fail =
    flags_stronger (is_open_under before.looks hashes member size) (is_open_under after.looks hashes member size) from flags
    (λ i is.
    let p : ℕ = bit_xor member (slice_index hashes i) % size in
    not_from_true (found_taken after.looks p) (taken_on before after p looked (known_from_not (found_taken before.looks p) is))) fail

-- a flag is one bit
pub flag_bound : (free : Bool) → from_bool (not free) < 2
flag_bound true = omega arith
flag_bound false = omega arith

-- one more flag, of a look under the hash at a place
pub one_more_look : (one two : View) (hashes : List ℕ) (member size place p flags : ℕ) (free : Bool) → OnlyLooked one two → LooksAt one two p free →
    p ≡ bit_xor member (slice_index hashes place) % size → FailWhereSet (is_open_under one.looks hashes member size) (place + 1) flags →
    FailWhereSet (is_open_under two.looks hashes member size) place (2 * flags + from_bool (not free))
one_more_look one two hashes member size place p flags free looked look is fail =
    let test : ℕ → Bool = is_open_under two.looks hashes member size in
    let same : flags * 2 ^ 1 + from_bool (not free) ≡ 2 * flags + from_bool (not free) = omega arith in
    subst (FailWhereSet test place) same
    (joined_flags test place 1 (from_bool (not free)) flags (flag_bound free)
    (known_flag test place (not free) (λ taken. seen free taken look))
    (open_on one two hashes member size (place + 1) flags looked fail))
  where
    seen : (b : Bool) → not b ≡ true → LooksAt one two p b → is_open_under two.looks hashes member size place ≡ false
    seen true set found = absurd cc
    seen false set found = ap (λ q. not (found_taken two.looks q)) (sym is) ∙ ap not (look_taken one two p found)

-- a pilot under which one member's position was found taken is rejected
pub member_rejects : (plan : SearchPlan) (looks : List Look) (rank : ℕ) (hashes members : List ℕ) (size from flags i : ℕ) →
    members ≡ (bucket_at plan.buckets rank).members → size ≡ plan.size → AreHashes plan.seed hashes → from + 8 ≤ length hashes → flags < 256 →
    i < length members → FailWhereSet (is_open_under looks hashes (slice_index members i) size) from flags →
    FailWhereSet (fits_at plan (found_taken looks) rank) from flags
member_rejects plan looks rank hashes members size from flags i bucket same kept room bound in_range fail = record {
  each = λ j set.
      let hash : ℕ = slice_index hashes (from + j) in
      let taken = known_from_not (found_taken looks (bit_xor (slice_index members i) hash % size)) (fail.each j set) in
      ⊎_elim
      (λ (within : j < 8).
      ap (λ ms. fits (found_taken looks) (positions_under (pilot_hash (from + j) plan.seed) plan.size ms)) (sym bucket)
      ∙ ap (λ s. fits (found_taken looks) (positions_under (pilot_hash (from + j) plan.seed) s members)) (sym same)
      ∙ ap (λ h. fits (found_taken looks) (positions_under h size members)) (sym (kept.each (from + j) (omega arith)))
      ∙ taken_fails (found_taken looks) hash size members i in_range taken)
      (λ (past : 8 ≤ j). absurd (omega (arith, set, bit_at_above flags 8 j bound past)))
      (cases_lt j 8);
}

-- a pilot that looks reject they reject with more
fails_on : (before after : View) (rank k : ℕ) → OnlyLooked before after → fits_at before.plan (found_taken before.looks) rank k ≡ false →
    fits_at after.plan (found_taken after.looks) rank k ≡ false
fails_on before after rank k looked fails =
    let now : View = record before { looks = before.looks ++ looked.more } in
    let more : TakesMore (found_taken before.looks) (found_taken now.looks) = λ p free.
    false_from_ne_true (found_taken before.looks p) (λ found. both_ways (found_taken now.looks p) free (taken_left before.looks looked.more p found)) in
    subst (λ v. fits_at v.plan (found_taken v.looks) rank k ≡ false) (sym looked.view)
    (pilot_fits-more before.plan.seed before.plan.size (found_taken before.looks) (found_taken now.looks)
    (bucket_at before.plan.buckets rank).members k more fails)

-- flags of rejected pilots after more looks
pub rejected_on : (before after : View) (rank from flags : ℕ) → OnlyLooked before after →
    FailWhereSet (fits_at before.plan (found_taken before.looks) rank) from flags → FailWhereSet (fits_at after.plan (found_taken after.looks) rank) from flags
rejected_on before after rank from flags looked fail =
    flags_stronger (fits_at before.plan (found_taken before.looks) rank) (fits_at after.plan (found_taken after.looks) rank) from flags
    (λ k fails. fails_on before after rank k looked fails) fail
