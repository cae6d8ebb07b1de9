-- The walk over the seeds, one attempt after another.
use Rattle.std.proofs.Common.{◌≡◌, ℕ, suc, ◌+◌, ◌<◌, ◌≤◌, Bool, true, false, cond, List, [], ◌∷◌, ◌++◌, length, drop, get_or}
use Rattle.std.proofs.Common.{sym, ap, ◌∙◌, arith}
use Rattle.std.specs.Prelude.{bytes_eq, Some}
use Rattle.std.proofs.lemmas.List.{drop_all}
use Rattle.std.proofs.Math.Seq.{drop-cons}
use Rattle.build_outcome.specs.declared.Cause.{Cause}
use Rattle.build_outcome.specs.declared.Cause.TheVariants.{SameHash, Stuck}
use Rattle.build_outcome.specs.Clash.{key_at}
use Rattle.build_outcome.specs.ClashLaws.{IsEarlierIn, clash_of-earlier}
use Rattle.build_outcome.specs.Index.{PartData, KeyMarkData, IndexData}
use Rattle.build_outcome.specs.Attempt.{Rules, Attempt, clashed, stuck, complete, attempt_of}
use Rattle.build_outcome.specs.Mark.{mark_of}
use Rattle.build_outcome.specs.Outcome.{repeated, exhausted, built, after_attempt, outcome_from}
use Rattle.build_outcome.specs.OutcomeLaws.{attempt_of-clashed}

-- the keys of a clash are in the list
pub places_of_clash : (rules : Rules) (keys : List (List ℕ)) (seed i j : ℕ) → clashed i j ≡ attempt_of rules keys seed → IsEarlierIn keys i j
places_of_clash rules keys seed i j is = clash_of-earlier keys seed i j (attempt_of-clashed rules keys seed i j (sym is))

-- the walk has come to the seed at a place, with these causes
pub record IsAtSeed (rules : Rules) (keys : List (List ℕ)) (causes : List Cause) (seeds : List ℕ) (place seed : ℕ) : Type 0 where
  pub within : place < length seeds
  pub seed_is : seed ≡ get_or seeds place 0
  pub so_far : outcome_from rules keys [] seeds ≡ outcome_from rules keys causes (drop place seeds)

-- it goes on with the attempt at this seed
step_at : (rules : Rules) (keys : List (List ℕ)) (causes : List Cause) (seeds : List ℕ) (place seed : ℕ) (a : Attempt) →
    IsAtSeed rules keys causes seeds place seed → a ≡ attempt_of rules keys seed →
    outcome_from rules keys [] seeds
    ≡ after_attempt rules keys seed (λ cause. outcome_from rules keys (causes ++ cause ∷ []) (drop (place + 1) seeds)) a
step_at rules keys causes seeds place seed a at is =
    let next : suc place ≡ place + 1 = omega arith in
    at.so_far
    ∙ ap (outcome_from rules keys causes)
    (drop-cons seeds place 0 at.within ∙ sym (λ i. at.seed_is i ∷ drop (suc place) seeds) ∙ ap (λ (k : ℕ). seed ∷ drop k seeds) next)
    ∙ ap (after_attempt rules keys seed (λ cause. outcome_from rules keys (causes ++ cause ∷ []) (drop (place + 1) seeds))) (sym is)

-- an attempt was complete
pub built_here : (rules : Rules) (keys : List (List ℕ)) (causes : List Cause) (seeds : List ℕ) (place seed n : ℕ)
    (parts : List PartData) (mark : KeyMarkData) →
    IsAtSeed rules keys causes seeds place seed → n ≡ length keys → mark ≡ mark_of keys seed → complete parts ≡ attempt_of rules keys seed →
    (let x : IndexData = record { seed = seed; n = n; shape = rules.shape; parts = parts; mark = Some mark } in built x)
    ≡ outcome_from rules keys [] seeds
built_here rules keys causes seeds place seed n parts mark at count marked ends =
    (λ i. built (record { seed = seed; n = count i; shape = rules.shape; parts = parts; mark = Some (marked i) }))
    ∙ sym (step_at rules keys causes seeds place seed (complete parts) at ends)

-- a partition is stuck
pub stuck_here : (rules : Rules) (keys : List (List ℕ)) (causes more : List Cause) (seeds : List ℕ) (place seed part bucket : ℕ) →
    IsAtSeed rules keys causes seeds place seed → stuck part bucket ≡ attempt_of rules keys seed → more ≡ causes ++ Stuck part bucket ∷ [] →
    outcome_from rules keys [] seeds ≡ outcome_from rules keys more (drop (place + 1) seeds)
stuck_here rules keys causes more seeds place seed part bucket at ends pushed =
    step_at rules keys causes seeds place seed (stuck part bucket) at ends
    ∙ ap (λ (cs : List Cause). outcome_from rules keys cs (drop (place + 1) seeds)) (sym pushed)

-- two keys have the same pair: whether they are equal decides
clash_at : (rules : Rules) (keys : List (List ℕ)) (causes : List Cause) (seeds : List ℕ) (place seed i j : ℕ) (same : Bool) →
    IsAtSeed rules keys causes seeds place seed → clashed i j ≡ attempt_of rules keys seed → bytes_eq (key_at keys i) (key_at keys j) ≡ same →
    outcome_from rules keys [] seeds
    ≡ cond same (repeated i j) (outcome_from rules keys (causes ++ SameHash i j ∷ []) (drop (place + 1) seeds))
clash_at rules keys causes seeds place seed i j same at ends equal =
    step_at rules keys causes seeds place seed (clashed i j) at ends
    ∙ ap (λ b. cond b (repeated i j) (outcome_from rules keys (causes ++ SameHash i j ∷ []) (drop (place + 1) seeds))) equal

-- two different keys have the same pair
pub clashed_here : (rules : Rules) (keys : List (List ℕ)) (causes more : List Cause) (seeds : List ℕ) (place seed i j : ℕ) →
    IsAtSeed rules keys causes seeds place seed → clashed i j ≡ attempt_of rules keys seed → bytes_eq (key_at keys i) (key_at keys j) ≡ false →
    more ≡ causes ++ SameHash i j ∷ [] → outcome_from rules keys [] seeds ≡ outcome_from rules keys more (drop (place + 1) seeds)
clashed_here rules keys causes more seeds place seed i j at ends other pushed =
    clash_at rules keys causes seeds place seed i j false at ends other
    ∙ ap (λ (cs : List Cause). outcome_from rules keys cs (drop (place + 1) seeds)) (sym pushed)

-- two equal keys
pub repeated_here : (rules : Rules) (keys : List (List ℕ)) (causes : List Cause) (seeds : List ℕ) (place seed i j : ℕ) →
    IsAtSeed rules keys causes seeds place seed → clashed i j ≡ attempt_of rules keys seed → bytes_eq (key_at keys i) (key_at keys j) ≡ true →
    repeated i j ≡ outcome_from rules keys [] seeds
repeated_here rules keys causes seeds place seed i j at ends same = sym (clash_at rules keys causes seeds place seed i j true at ends same)

-- no seed is left
pub exhausted_here : (rules : Rules) (keys : List (List ℕ)) (causes : List Cause) (seeds : List ℕ) (place : ℕ) →
    length seeds ≤ place → outcome_from rules keys [] seeds ≡ outcome_from rules keys causes (drop place seeds) →
    exhausted causes ≡ outcome_from rules keys [] seeds
exhausted_here rules keys causes seeds place past so_far =
    sym (so_far ∙ ap (outcome_from rules keys causes) (drop_all place seeds past))
