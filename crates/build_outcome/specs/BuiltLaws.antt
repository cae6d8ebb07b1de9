-- What is known of a list of keys for which an index was built.
use Rattle.std.specs.Prelude.{◌≡◌, ◌≢◌, ℕ, suc, ◌^◌, ◌<◌, ◌≤◌, Bool, true, false, cond}
use Rattle.std.specs.Prelude.{List, [], ◌∷◌, ◌++◌, length, slice_index, bytes_eq, All}
use Rattle.std.proofs.Common.{refl, ap, subst, arith}
use Rattle.pthash.specs.declared.TheConstants.{MAX_KEYS}
use Rattle.build_outcome.specs.declared.Cause.{Cause}
use Rattle.build_outcome.specs.declared.Cause.TheVariants.{SameHash, Stuck}
use Rattle.build_outcome.specs.Attempt.{Rules, AreRules, Attempt, clashed, stuck, complete, attempt_of}
use Rattle.build_outcome.specs.AttemptLaws.{complete-parts}
use Rattle.build_outcome.specs.Clash.{key_at}
use Rattle.build_outcome.specs.Index.{PartData, IndexData}
use Rattle.build_outcome.specs.IndexLaws.{IsOneToOne, index_of-IsOneToOne, values_differ}
use Rattle.build_outcome.specs.Outcome.{Outcome, repeated, built, index_of, after_attempt, outcome_from, outcome_of}
use Rattle.build_outcome.specs.OutcomeLaws.{IsRepeat, repeated_key}
use Rattle.build_outcome.specs.Validity.{IsValidIndex}
use Rattle.build_outcome.specs.ValidityLaws.{index_of-IsValidIndex}
use Rattle.build_outcome.specs.Values.{value_of}

-- an index is that of a complete attempt at one of the seeds
pub record IsBuiltFrom (rules : Rules) (keys : List (List ℕ)) (seeds : List ℕ) (x : IndexData) : Type 0 where
  pub place : ℕ
  pub within : place < length seeds
  pub parts : List PartData
  pub ends : attempt_of rules keys (slice_index seeds place) ≡ complete parts
  pub is : index_of rules keys (slice_index seeds place) parts ≡ x

-- the same behind one seed more
built_later : (rules : Rules) (keys : List (List ℕ)) (seed : ℕ) (seeds : List ℕ) (x : IndexData) → IsBuiltFrom rules keys seeds x →
    IsBuiltFrom rules keys (seed ∷ seeds) x
built_later rules keys seed seeds x later =
    record { place = suc later.place; within = omega (arith, later.within); parts = later.parts; ends = later.ends; is = later.is }

-- a repeated key or what comes later, where an index comes
built_unless : (test : Bool) (i j : ℕ) (later : Outcome) (x : IndexData) → cond test (repeated i j) later ≡ built x → later ≡ built x
built_unless true i j later x is = absurd cc
built_unless false i j later x is = is

-- after an attempt at the first seed an index comes from it or from a later one
built_after : (rules : Rules) (keys : List (List ℕ)) (seed : ℕ) (seeds : List ℕ) (x : IndexData) (go_on : Cause → Outcome) (attempt : Attempt) →
    attempt_of rules keys seed ≡ attempt → ((cause : Cause) → go_on cause ≡ built x → IsBuiltFrom rules keys seeds x) →
    after_attempt rules keys seed go_on attempt ≡ built x → IsBuiltFrom rules keys (seed ∷ seeds) x
built_after rules keys seed seeds x go_on (clashed i j) ends later is =
    built_later rules keys seed seeds x
    (later (SameHash i j) (built_unless (bytes_eq (key_at keys i) (key_at keys j)) i j (go_on (SameHash i j)) x is))
built_after rules keys seed seeds x go_on (stuck part bucket) ends later is = built_later rules keys seed seeds x (later (Stuck part bucket) is)
built_after rules keys seed seeds x go_on (complete parts) ends later is =
    let same : index_of rules keys seed parts ≡ x = cc in
    record { place = 0; within = omega arith; parts = parts; ends = ends; is = same }

-- an index that was built is that of a complete attempt at one of the seeds
pub outcome_from-built : (rules : Rules) (keys : List (List ℕ)) (causes : List Cause) (seeds : List ℕ) (x : IndexData) →
    outcome_from rules keys causes seeds ≡ built x → IsBuiltFrom rules keys seeds x
outcome_from-built rules keys causes [] x is = absurd cc
outcome_from-built rules keys causes (seed ∷ seeds) x is =
    built_after rules keys seed seeds x (λ cause. outcome_from rules keys (causes ++ cause ∷ []) seeds) (attempt_of rules keys seed) refl
    (λ cause later. outcome_from-built rules keys (causes ++ cause ∷ []) seeds x later) is

-- an index that was built gives its keys pairwise different values below their number
pub built-IsOneToOne : (rules : Rules) (keys : List (List ℕ)) (seeds : List ℕ) (x : IndexData) → AreRules rules →
    outcome_of rules keys seeds ≡ built x → IsOneToOne x keys
built-IsOneToOne rules keys seeds x ranges is =
    let from : IsBuiltFrom rules keys seeds x = outcome_from-built rules keys [] seeds x is in
    let seed : ℕ = slice_index seeds from.place in
    subst (λ y. IsOneToOne y keys) from.is
    (index_of-IsOneToOne rules keys seed from.parts ranges (complete-parts rules keys seed from.parts from.ends))

-- an index that was built is valid
pub built-IsValidIndex : (rules : Rules) (keys : List (List ℕ)) (seeds : List ℕ) (x : IndexData) → AreRules rules →
    All (λ seed. seed < 2 ^ 64) seeds → 1 ≤ length keys → length keys ≤ MAX_KEYS → outcome_of rules keys seeds ≡ built x → IsValidIndex x
built-IsValidIndex rules keys seeds x ranges seeds_fit some few is =
    let from : IsBuiltFrom rules keys seeds x = outcome_from-built rules keys [] seeds x is in
    let seed : ℕ = slice_index seeds from.place in
    subst IsValidIndex from.is
    (index_of-IsValidIndex rules keys seed from.parts ranges (seeds_fit from.place 0 from.within) some few
    (complete-parts rules keys seed from.parts from.ends))

-- no key of the list comes twice
abbrev pub AreDistinctKeys : List (List ℕ) → Type 0
AreDistinctKeys keys = (i j : ℕ) → i < j → j < length keys → key_at keys i ≢ key_at keys j

-- where an index was built, no key comes twice
pub built-AreDistinctKeys : (rules : Rules) (keys : List (List ℕ)) (seeds : List ℕ) (x : IndexData) → AreRules rules →
    outcome_of rules keys seeds ≡ built x → AreDistinctKeys keys
built-AreDistinctKeys rules keys seeds x ranges is i j before within same =
    values_differ x keys i j (built-IsOneToOne rules keys seeds x ranges is) before within (ap (value_of x) same)

-- so a list in which a key comes twice has no index
pub IsRepeat-not_built : (rules : Rules) (keys : List (List ℕ)) (seeds : List ℕ) (i j : ℕ) (x : IndexData) → AreRules rules → IsRepeat keys i j →
    outcome_of rules keys seeds ≢ built x
IsRepeat-not_built rules keys seeds i j x ranges twice is =
    built-AreDistinctKeys rules keys seeds x ranges is i j twice.places.earlier twice.places.within twice.equal

-- where no key comes twice, none is repeated
pub AreDistinctKeys-not_repeated : (rules : Rules) (keys : List (List ℕ)) (seeds : List ℕ) (i j : ℕ) → AreDistinctKeys keys →
    outcome_of rules keys seeds ≢ repeated i j
AreDistinctKeys-not_repeated rules keys seeds i j distinct is =
    let twice : IsRepeat keys i j = repeated_key rules keys [] seeds i j is in
    distinct i j twice.places.earlier twice.places.within twice.equal
