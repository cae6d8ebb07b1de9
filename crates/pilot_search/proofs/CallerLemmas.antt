-- For the crates that adopt pilots.
use Rattle.std.proofs.Common.{◌≡◌, ℕ, ◌≤◌, length, take, ap, ◌∙◌, arith}
use Rattle.std.proofs.lemmas.List.{length-take-le}
use Rattle.pthash.specs.PrefixLaws.{IsEarlier, prefix_of-earlier}
use Rattle.pthash.specs.Search.{SearchPlan, SearchState, prefix_of}
use Rattle.pilot_search.specs.Outcome.{AreFirstPilots, IsPlaced}
use Rattle.pilot_search.specs.declared.placing.Placed.{Placed}

-- the first pilots of a finished search are those of the first buckets
pub take-pilots : (plan : SearchPlan) (placed : Placed) (n : ℕ) → IsPlaced plan placed → n ≤ length placed.pilots.items →
    AreFirstPilots plan (take n placed.pilots.items)
take-pilots plan placed n whole within =
    let end : SearchState = record { pilots = placed.pilots.items; taken = placed.occupied.taken } in
    let count : length (take n placed.pilots.items) ≡ n = length-take-le n placed.pilots.items within in
    let earlier : IsEarlier plan n end = prefix_of-earlier plan n (length plan.buckets) end whole.found (omega (arith, whole.one_number_a_rank)) in
    record {
      within = omega (arith, count, whole.one_number_a_rank);
      state = earlier.state;
      reached = ap (prefix_of plan) count ∙ earlier.ends;
      same_pilots = earlier.pilots;
    }
