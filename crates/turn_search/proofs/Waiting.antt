-- What a pass that has waited for its turn still knows.
use Rattle.std.proofs.Common.{◌≡◌, ℕ, Bool, true, false, refl, sym, ◌∙◌, subst}
use Rattle.std.specs.Prelude.{cond}
use Rattle.pthash.specs.Least.{FailsBelow}
use Rattle.pthash.specs.SearchLaws.{fits_at}
use Rattle.turn_search.specs.declared.board.View.{View}
use Rattle.turn_search.specs.Looks.{found_taken, RejectsBelow}
use Rattle.turn_search.specs.Steps.{gets_turn, with_load, with_turn, after_load}
use Rattle.turn_search.specs.Passes.{CandidateData, IsOfRank}
use Rattle.turn_search.specs.Works.{KeepsClaim}

-- a load of the turn word keeps the claim, the place and the looks
keeps_once : (view : View) (found : ℕ) → KeepsClaim view (after_load view found)
keeps_once view found = either_way (gets_turn view found)
  where
    either_way : (gets : Bool) → KeepsClaim view (cond gets (with_turn (with_load view found)) (with_load view found))
    either_way true = record { plan = refl; place = refl; claim = refl; looks = refl }
    either_way false = record { plan = refl; place = refl; claim = refl; looks = refl }

-- one more load keeps them
pub keeps_on : (before now after : View) (found : ℕ) → KeepsClaim before now → after ≡ after_load now found → KeepsClaim before after
keeps_on before now after found kept is =
    let more : KeepsClaim now after = subst (KeepsClaim now) (sym is) (keeps_once now found) in
    record {
      plan = more.plan ∙ kept.plan;
      place = more.place ∙ kept.place;
      claim = more.claim ∙ kept.claim;
      looks = more.looks ∙ kept.looks;
    }

-- what was rejected before is rejected after
pub keeps_rejected : (before after : View) (rank k : ℕ) → KeepsClaim before after → RejectsBelow before rank k → RejectsBelow after rank k
keeps_rejected before after rank k kept rejects =
    subst (λ p. FailsBelow (fits_at p (found_taken after.looks) rank) k) (sym kept.plan)
    (subst (λ l. FailsBelow (fits_at before.plan (found_taken l) rank) k) (sym kept.looks) rejects)

-- a candidate is still of its rank
pub keeps_candidate : (before after : View) (it : CandidateData) → KeepsClaim before after → IsOfRank before it → IsOfRank after it
keeps_candidate before after it kept own = record {
  rank = kept.claim ∙ own.rank;
  lower = keeps_rejected before after it.rank it.pilot kept own.lower;
}
