-- What a build of a list of keys comes to, over the seeds in their order.
use Rattle.std.specs.Prelude.{ℕ, List, [], ◌∷◌, ◌++◌, length, bytes_eq, if◌then◌else◌, Some}
use Rattle.build_outcome.specs.declared.Cause.{Cause}
use Rattle.build_outcome.specs.declared.Cause.TheVariants.{SameHash, Stuck}
use Rattle.build_outcome.specs.Attempt.{Rules, Attempt, clashed, stuck, complete, attempt_of}
use Rattle.build_outcome.specs.Clash.{key_at}
use Rattle.build_outcome.specs.Index.{PartData, IndexData}
use Rattle.build_outcome.specs.Mark.{mark_of}

-- the ways in which a build ends: a repeated key, no seed that succeeds, or the index at the first seed that does
pub data Outcome : Type 0 where
  repeated : ℕ → ℕ → Outcome
  exhausted : List Cause → Outcome
  built : IndexData → Outcome

-- the index of a list of keys whose attempt at a seed gave these partitions
abbrev pub index_of : Rules → List (List ℕ) → ℕ → List PartData → IndexData
index_of rules keys seed parts =
    record { seed = seed; n = length keys; shape = rules.shape; parts = parts; mark = Some (mark_of keys seed) }

-- after an attempt a build ends, or goes on with the attempt's cause recorded
abbrev pub after_attempt : Rules → List (List ℕ) → ℕ → (Cause → Outcome) → Attempt → Outcome
after_attempt rules keys seed go_on (clashed i j) =
    if bytes_eq (key_at keys i) (key_at keys j) then repeated i j else go_on (SameHash i j)
after_attempt rules keys seed go_on (stuck part bucket) = go_on (Stuck part bucket)
after_attempt rules keys seed go_on (complete parts) = built (index_of rules keys seed parts)

-- the outcome where these causes are recorded and these seeds are left
abbrev pub outcome_from : Rules → List (List ℕ) → List Cause → List ℕ → Outcome
outcome_from rules keys causes [] = exhausted causes
outcome_from rules keys causes (seed ∷ seeds) =
    after_attempt rules keys seed (λ cause. outcome_from rules keys (causes ++ cause ∷ []) seeds) (attempt_of rules keys seed)

-- the outcome of a list of keys
abbrev pub outcome_of : Rules → List (List ℕ) → List ℕ → Outcome
outcome_of rules keys seeds = outcome_from rules keys [] seeds
