-- What a worker does to its pass.
use Rattle.std.specs.Prelude.{◌≡◌, ◌⊎◌, Bool, true, false, None}
use Rattle.pthash.specs.Search.{SearchPlan}
use Rattle.turn_search.specs.declared.board.View.{View}
use Rattle.turn_search.specs.Words.{ranks_of, HasStop}

-- a pass keeps its claim, its place and its looks, as it does while it waits
pub record KeepsClaim (before after : View) : Type 0 where
  pub plan : after.plan ≡ before.plan
  pub place : after.place ≡ before.place
  pub claim : after.claim ≡ before.claim
  pub looks : after.looks ≡ before.looks

-- a pass has dealt with its claim: it has none any more and the search goes on, or it has seen the stop bit
pub record IsSettled (before after : View) (goes_on : Bool) : Type 0 where
  pub place : after.place ≡ before.place
  pub no_claim : goes_on ≡ true → after.claim ≡ None
  pub stopped : goes_on ≡ false → HasStop after.last

-- a pass is done: it has no claim and its place is past every rank, or it has seen the stop bit
abbrev pub IsDone : SearchPlan → View → Type 0
IsDone plan view = ((view.claim ≡ None) × (view.place ≡ ranks_of plan)) ⊎ HasStop view.last
