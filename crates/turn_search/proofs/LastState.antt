-- What the words of a closed table say.
use Rattle.std.proofs.Common.{◌≡◌, ℕ, zero, suc, ◌+◌, List, [], ◌∷◌, length, take, drop, get_or, sym, ap, ◌∙◌, subst, arith}
use Rattle.std.specs.Prelude.{Err}
use Rattle.std.proofs.lemmas.List.{length-drop, get_or-drop, get_or-take, length-take-le, ext_get_or}
use mathlib.Core.Option.{some, some-injective, some-ne-none}
use lib.ListN.{get_elem?}
use Rattle.pthash.specs.Search.{SearchPlan, prefix_of, search_of}
use Rattle.pthash.specs.SearchLaws.{stuck_stays}
use Rattle.pthash.specs.PrefixLaws.{length-pilots}
use Rattle.pilot_search.specs.Outcome.{AreFirstPilots}
use Rattle.turn_search.specs.declared.board.View.{View}
use Rattle.turn_search.specs.declared.closing.Ended.{Ended}
use Rattle.turn_search.specs.Words.{ranks_of, HasStop, turn_word, turn_in, pilots_from}
use Rattle.turn_search.specs.Rule.{Kept}
use Rattle.turn_search.specs.Passes.{TurnTableData}
use Rattle.turn_search.specs.Closings.{stuck_in, IsEndOf}
use Rattle.turn_search.proofs.TurnKept.{prefix_of-stuck}

-- a word that stands at a place
pub read_word : (words : List ℕ) (i word : ℕ) → get_elem? words i ≡ some word → get_or words i 0 ≡ word
read_word [] i word there = absurd (some-ne-none word (sym there))
read_word (w ∷ ws) zero word there = some-injective w word there
read_word (w ∷ ws) (suc i) word there = read_word ws i word there

module _ (plan : SearchPlan) (words : List ℕ) (views : List View) (kept : Kept plan words views) where
  -- the words of the first pilots
  abbrev pub first_pilots : List ℕ
  first_pilots = take (turn_in words) (drop (pilots_from plan) words)

  -- as many as have had their turn
  pub length-first_pilots : length first_pilots ≡ turn_in words
  length-first_pilots = length-take-le (turn_in words) (drop (pilots_from plan) words)
      (omega (arith, length-drop (pilots_from plan) words, kept.count, kept.turn_within))

  -- they are those of the search
  pub first_pilots-are : AreFirstPilots plan first_pilots
  first_pilots-are =
      let known : length kept.state.pilots ≡ turn_in words = length-pilots plan (turn_in words) kept.state kept.reached in
      record {
        within = omega (arith, length-first_pilots, kept.turn_within);
        state = kept.state;
        reached = ap (prefix_of plan) length-first_pilots ∙ kept.reached;
        same_pilots = ext_get_or 0 kept.state.pilots first_pilots (known ∙ sym length-first_pilots)
            (λ rank below.
            sym (kept.pilots rank (omega (arith, known)))
            ∙ sym (get_or-take (turn_in words) (drop (pilots_from plan) words) rank 0 (omega (arith, known))
            ∙ get_or-drop (pilots_from plan) words rank 0));
      }

  -- where the stop bit is set the search is stuck
  pub stopped_is_stuck : HasStop (turn_word words) → search_of plan ≡ Err (turn_in words)
  stopped_is_stuck stop =
      stuck_stays plan (turn_in words + 1) (turn_in words) (ranks_of plan) (prefix_of-stuck plan (turn_in words) kept.state kept.reached (kept.stop_stuck stop))
      (omega (arith, kept.stop_below stop))

-- what is said of a closed table
pub end_of : (table : TurnTableData) (key : SearchPlan) (words : List ℕ) (views : List View) (seat : ℕ) (view : View) (ended : Ended) →
    key ≡ table.plan →
    Kept key words views → get_elem? views seat ≡ some view → ended.pilots.items ≡ take (turn_in words) (drop (pilots_from table.plan) words) →
    ended.stuck ≡ stuck_in (turn_word words) → turn_in words + ended.rest ≡ ranks_of table.plan → IsEndOf table view ended
end_of table key words views seat view ended same kept there pilots stuck rest =
    let own : Kept table.plan words views = subst (λ p. Kept p words views) same kept in
    let knows = own.each seat view there in
    record {
      words = words;
      views = views;
      seat = seat;
      kept = own;
      seated = there;
      count = ap length pilots ∙ length-first_pilots table.plan words views own;
      pilots = subst (AreFirstPilots table.plan) (sym pilots) (first_pilots-are table.plan words views own);
      rest = rest;
      stuck = stuck;
      is_stuck = stopped_is_stuck table.plan words views own;
      never_back = knows.turn_passed;
      stop_stays = knows.stop_stays;
    }
