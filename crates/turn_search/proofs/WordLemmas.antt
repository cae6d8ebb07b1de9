-- What a step on one word leaves of the others.
use Rattle.std.proofs.Common.{◌≡◌, ◌≢◌, ℕ, ◌+◌, ◌/◌, ◌%◌, ◌^◌, ◌<◌, List, length, true, refl, ap, ◌∙◌, arith, eqb}
use Rattle.std.specs.Prelude.{slice_index, slice_set, bit_or}
use Rattle.std.specs.Int.{bit_at}
use Rattle.std.proofs.lemmas.List.{get_or-set_other, length-set}
use Rattle.std.proofs.lemmas.Nat.{or_comm, or_shifted}
use Rattle.pthash.specs.Search.{SearchPlan}
use Rattle.word_bits.specs.Bits.{word_of, is_set, set_bit}
use Rattle.word_bits.specs.Laws.{is_set-set_stays, length-set_bit}
use Rattle.turn_search.specs.declared.layout.TheConstants.{STOP}
use Rattle.turn_search.specs.Words.{ranks_of, bits_from, pilots_from, turn_word, is_claimed, is_taken, pilot_in}

-- a bit of another word
pub is_set-other_word : (words : List ℕ) (i x first q : ℕ) → word_of first q ≢ i → is_set (slice_set words i x) first q ≡ is_set words first q
is_set-other_word words i x first q apart = ap (λ w. eqb (bit_at w (q % 64)) 1) (get_or-set_other words i (word_of first q) x 0 apart)

-- words after a step that leaves the turn word and loses no bit
pub record Grows (plan : SearchPlan) (words later : List ℕ) : Type 0 where
  pub count : length later ≡ length words
  pub turn : turn_word later ≡ turn_word words
  pub claims : (rank : ℕ) → rank < ranks_of plan → is_claimed words rank ≡ true → is_claimed later rank ≡ true
  pub taken : (p : ℕ) → p < plan.size → is_taken plan words p ≡ true → is_taken plan later p ≡ true

-- no word changed
pub grows_same : (plan : SearchPlan) (words : List ℕ) → Grows plan words words
grows_same plan words = record { count = refl; turn = refl; claims = λ rank below h. h; taken = λ p below h. h }

-- a position's bit lies in no claim word, and a claim bit in no word of positions
pub taken-claim_set : (plan : SearchPlan) (words : List ℕ) (rank p : ℕ) → rank < ranks_of plan →
    is_taken plan (set_bit words 1 rank) p ≡ is_taken plan words p
taken-claim_set plan words rank p below =
    is_set-other_word words (1 + rank / 64) (bit_or (slice_index words (word_of 1 rank)) (2 ^ (rank % 64))) (bits_from plan) p (λ e. omega (arith, e))

-- a claim bit is set
pub grows_claim : (plan : SearchPlan) (words : List ℕ) (rank : ℕ) → rank < ranks_of plan → Grows plan words (set_bit words 1 rank)
grows_claim plan words rank below = record {
  count = length-set_bit words 1 rank;
  turn = get_or-set_other words (1 + rank / 64) 0 (bit_or (slice_index words (word_of 1 rank)) (2 ^ (rank % 64))) 0 (λ e. omega (arith, e));
  claims = λ other within h. is_set-set_stays words 1 other rank h;
  taken = λ p within h. taken-claim_set plan words rank p below ∙ h;
}

-- a claim bit lies in no word of positions
pub claimed-bit_set : (plan : SearchPlan) (words : List ℕ) (p rank : ℕ) → rank < ranks_of plan →
    is_claimed (set_bit words (bits_from plan) p) rank ≡ is_claimed words rank
claimed-bit_set plan words p rank below =
    is_set-other_word words (bits_from plan + p / 64) (bit_or (slice_index words (word_of (bits_from plan) p)) (2 ^ (p % 64))) 1 rank (λ e. omega (arith, e))

-- the bit of a position is set
pub grows_bit : (plan : SearchPlan) (words : List ℕ) (p : ℕ) → Grows plan words (set_bit words (bits_from plan) p)
grows_bit plan words p = record {
  count = length-set_bit words (bits_from plan) p;
  turn = get_or-set_other words (bits_from plan + p / 64) 0 (bit_or (slice_index words (word_of (bits_from plan) p)) (2 ^ (p % 64))) 0 (λ e. omega (arith, e));
  claims = λ rank within h. claimed-bit_set plan words p rank within ∙ h;
  taken = λ other within h. is_set-set_stays words (bits_from plan) other p h;
}

-- a pilot is stored
pub grows_pilot : (plan : SearchPlan) (words : List ℕ) (rank pilot : ℕ) → Grows plan words (slice_set words (pilots_from plan + rank) pilot)
grows_pilot plan words rank pilot = record {
  count = length-set words (pilots_from plan + rank) pilot;
  turn = get_or-set_other words (pilots_from plan + rank) 0 pilot 0 (λ e. omega (arith, e));
  claims = λ other within h. is_set-other_word words (pilots_from plan + rank) pilot 1 other (λ e. omega (arith, e)) ∙ h;
  taken = λ p within h. is_set-other_word words (pilots_from plan + rank) pilot (bits_from plan) p (λ e. omega (arith, e)) ∙ h;
}

-- a step on the turn word leaves the claims
pub claimed-turn_set : (words : List ℕ) (value rank : ℕ) → is_claimed (slice_set words 0 value) rank ≡ is_claimed words rank
claimed-turn_set words value rank = is_set-other_word words 0 value 1 rank (λ e. omega (arith, e))

-- a step on the turn word leaves the positions
pub taken-turn_set : (plan : SearchPlan) (words : List ℕ) (value p : ℕ) → is_taken plan (slice_set words 0 value) p ≡ is_taken plan words p
taken-turn_set plan words value p = is_set-other_word words 0 value (bits_from plan) p (λ e. omega (arith, e))

-- a step on the turn word leaves the pilots
pub pilot-turn_set : (plan : SearchPlan) (words : List ℕ) (value rank : ℕ) → pilot_in plan (slice_set words 0 value) rank ≡ pilot_in plan words rank
pilot-turn_set plan words value rank = get_or-set_other words 0 (pilots_from plan + rank) value 0 (λ e. omega (arith, e))

-- the stop bit is added to a turn
pub or_stop : (turn : ℕ) → turn < STOP → bit_or turn STOP ≡ turn + STOP
or_stop turn below = or_comm turn STOP ∙ or_shifted 1 63 turn below ∙ omega arith
