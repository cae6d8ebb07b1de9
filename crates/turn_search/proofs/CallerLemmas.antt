-- For the crates that search by turns.
use Rattle.std.proofs.Common.{◌≡◌, ℕ, Bool, true, false, sym, subst}
use Rattle.std.specs.Prelude.{cond}
use Rattle.turn_search.specs.declared.board.View.{View}
use Rattle.turn_search.specs.Steps.{gets_turn, with_load, with_turn, after_load}
use Rattle.turn_search.specs.Passes.{CandidateData, IsOfRank}

-- a candidate is still of its rank after a load of the turn word
pub IsOfRank-after_load : (view after : View) (found : ℕ) (it : CandidateData) → after ≡ after_load view found → IsOfRank view it → IsOfRank after it
IsOfRank-after_load view after found it is own = subst (λ v. IsOfRank v it) (sym is) (either_way (gets_turn view found))
  where
    either_way : (gets : Bool) → IsOfRank (cond gets (with_turn (with_load view found)) (with_load view found)) it
    either_way true = record { rank = own.rank; lower = record { fails = own.lower.fails } }
    either_way false = record { rank = own.rank; lower = record { fails = own.lower.fails } }
