-- What is known of an outcome: a repeated key stands twice in the list.
use Rattle.std.specs.Prelude.{◌≡◌, ℕ, Bool, true, false, cond, List, [], ◌∷◌, ◌++◌, bytes_eq, Option, Some, None, Result, Ok, Err}
use Rattle.std.proofs.Common.{refl, subst}
use Rattle.std.proofs.lemmas.Slice.Eq.{bytes_eq-Decides}
use Rattle.build_outcome.specs.declared.Cause.{Cause}
use Rattle.build_outcome.specs.declared.Cause.TheVariants.{SameHash, Stuck}
use Rattle.pthash.specs.Partitions.{partitions_of}
use Rattle.pthash.specs.Records.{records_of}
use Rattle.build_outcome.specs.Clash.{key_at, clash_of}
use Rattle.build_outcome.specs.ClashLaws.{IsEarlierIn, clash_of-earlier}
use Rattle.build_outcome.specs.Attempt.{Rules, Attempt, clashed, stuck, complete, by_parts, unless_clash, attempt_of, parts_from}
use Rattle.build_outcome.specs.Index.{PartData}
use Rattle.build_outcome.specs.Outcome.{Outcome, repeated, exhausted, built, after_attempt, outcome_from}

-- two places of the list, the first before the second, hold equal keys
pub record IsRepeat (keys : List (List ℕ)) (i j : ℕ) : Type 0 where
  pub places : IsEarlierIn keys i j
  pub equal : key_at keys i ≡ key_at keys j

-- the partitions alone never clash
parts_do_not_clash : (parts : Result (List PartData) (ℕ × ℕ)) (i j : ℕ) → ¬ (by_parts parts ≡ clashed i j)
parts_do_not_clash (Ok parts) i j same = cc
parts_do_not_clash (Err e) i j same = cc

-- where an attempt clashes, the list has that clash
clash_of_attempt : (clash : Option (ℕ × ℕ)) (parts : Result (List PartData) (ℕ × ℕ)) (i j : ℕ) →
    unless_clash clash (by_parts parts) ≡ clashed i j → clash ≡ Some (i, j)
clash_of_attempt None parts i j same = absurd (parts_do_not_clash parts i j same)
clash_of_attempt (Some c) parts i j same =
    let first : c.0 ≡ i = cc in
    let second : c.1 ≡ j = cc in
    λ k. Some (first k, second k)

-- an attempt that clashes does so at the first clash of the list
pub attempt_of-clashed : (rules : Rules) (keys : List (List ℕ)) (seed i j : ℕ) → attempt_of rules keys seed ≡ clashed i j →
    clash_of keys seed ≡ Some (i, j)
unfolding attempt_of
attempt_of-clashed rules keys seed i j same =
    clash_of_attempt (clash_of keys seed) (parts_from rules seed 0 (partitions_of (records_of keys seed) rules.parts)) i j same

-- what is claimed of an outcome
abbrev RepeatsKey : List (List ℕ) → Outcome → Type 0
RepeatsKey keys (repeated i j) = IsRepeat keys i j
RepeatsKey keys (exhausted causes) = Unit {0}
RepeatsKey keys (built x) = Unit {0}

-- a repeated key, or what comes later
repeat_or_on : (keys : List (List ℕ)) (i j : ℕ) (test : Bool) (later : Outcome) → bytes_eq (key_at keys i) (key_at keys j) ≡ test →
    IsEarlierIn keys i j → RepeatsKey keys later → RepeatsKey keys (cond test (repeated i j) later)
repeat_or_on keys i j true later same places more =
    record { places = places; equal = (bytes_eq-Decides (key_at keys i) (key_at keys j)).0 same }
repeat_or_on keys i j false later other places more = more

-- the same after an attempt
after_repeats : (rules : Rules) (keys : List (List ℕ)) (seed : ℕ) (go_on : Cause → Outcome) (attempt : Attempt) →
    attempt_of rules keys seed ≡ attempt →
    ((cause : Cause) → RepeatsKey keys (go_on cause)) → RepeatsKey keys (after_attempt rules keys seed go_on attempt)
after_repeats rules keys seed go_on (clashed i j) is more =
    repeat_or_on keys i j (bytes_eq (key_at keys i) (key_at keys j)) (go_on (SameHash i j)) refl
    (clash_of-earlier keys seed i j (attempt_of-clashed rules keys seed i j is)) (more (SameHash i j))
after_repeats rules keys seed go_on (stuck part bucket) is more = more (Stuck part bucket)
after_repeats rules keys seed go_on (complete parts) is more = tt

-- it holds of each outcome
outcome_repeats : (rules : Rules) (keys : List (List ℕ)) (causes : List Cause) (seeds : List ℕ) → RepeatsKey keys (outcome_from rules keys causes seeds)
outcome_repeats rules keys causes [] = tt
outcome_repeats rules keys causes (seed ∷ seeds) =
    after_repeats rules keys seed (λ cause. outcome_from rules keys (causes ++ cause ∷ []) seeds) (attempt_of rules keys seed) refl
    (λ cause. outcome_repeats rules keys (causes ++ cause ∷ []) seeds)

-- a repeated key stands at two places of the list
pub repeated_key : (rules : Rules) (keys : List (List ℕ)) (causes : List Cause) (seeds : List ℕ) (i j : ℕ) →
    outcome_from rules keys causes seeds ≡ repeated i j → IsRepeat keys i j
repeated_key rules keys causes seeds i j is = subst (RepeatsKey keys) is (outcome_repeats rules keys causes seeds)
