-- What each kind of step tells the view that takes it: the view afterwards, and what the rule makes of the word that it found.
use Rattle.std.specs.Prelude.{◌≡◌, ℕ, ◌-◌, ◌≤◌, true, Some}
use Rattle.atomic_table.specs.Table.{Me, Step}
use Rattle.turn_search.specs.declared.board.View.{View}
use Rattle.turn_search.specs.Words.{bits_from, turn_of, HasStop}
use Rattle.turn_search.specs.Looks.{HasTurn}
use Rattle.turn_search.specs.Steps.{after_claim, after_load, after_look, after_bit, after_store, after_pass, after_stop}

-- the view of a seat, which has no slots
abbrev Seated : Type 0
Seated = Me (Unit {0}) View

-- a view that holds the turn afterwards has looks that are true of the state at its rank
abbrev pub HasTurnIfHeld : View → Type 0
HasTurnIfHeld view = view.holds ≡ true → (rank : ℕ) × HasTurn view rank

-- claim
abbrev pub ClaimTold : Step (Unit {0}) → Seated → ℕ → Seated → Type 0
ClaimTold step before found after = after ≡ (after_claim before.0 found, before.1)

-- load of the turn word
pub record LoadTold (step : Step (Unit {0})) (before : Seated) (found : ℕ) (after : Seated) : Type 0 where
  pub view : after ≡ (after_load before.0 found, before.1)
  pub never_back : turn_of before.0.last ≤ turn_of found
  pub claim_ahead : (rank : ℕ) → before.0.claim ≡ Some rank → turn_of found ≤ rank
  pub stop_stays : HasStop before.0.last → found ≡ before.0.last
  pub has_turn : HasTurnIfHeld after.0

-- load of a word of the positions' bits
pub record LookTold (step : Step (Unit {0})) (before : Seated) (found : ℕ) (after : Seated) : Type 0 where
  pub view : after ≡ (after_look before.0 (step.word - bits_from before.0.plan) found, before.1)
  pub has_turn : HasTurnIfHeld after.0

-- one bit more
abbrev pub BitTold : Step (Unit {0}) → Seated → ℕ → Seated → Type 0
BitTold step before found after = after ≡ (after_bit before.0, before.1)

-- store of the pilot
abbrev pub StoreTold : Step (Unit {0}) → Seated → ℕ → Seated → Type 0
StoreTold step before found after = after ≡ (after_store before.0, before.1)

-- the turn is passed on
pub record PassTold (step : Step (Unit {0})) (before : Seated) (found : ℕ) (after : Seated) : Type 0 where
  pub view : after ≡ (after_pass before.0 found, before.1)
  pub turn : before.0.claim ≡ Some found

-- the search is stopped
pub record StopTold (step : Step (Unit {0})) (before : Seated) (found : ℕ) (after : Seated) : Type 0 where
  pub view : after ≡ (after_stop before.0 found, before.1)
  pub turn : before.0.claim ≡ Some found
