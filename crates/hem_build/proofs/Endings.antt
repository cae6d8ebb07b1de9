-- What is known of the keys at the end of a build.
use Rattle.std.proofs.Common.{◌≡◌, ℕ, List, [], Result, Ok, Err, sym, ap, ◌∙◌}
use Rattle.std.specs.Prelude.{IfOk}
use Rattle.std.specs.Result.{IsErrOf}
use Rattle.build_outcome.specs.Attempt.{Rules, AreRules}
use Rattle.build_outcome.specs.BuiltLaws.{AreDistinctKeys, built-IsOneToOne, built-AreDistinctKeys}
use Rattle.build_outcome.specs.Index.{IndexData}
use Rattle.build_outcome.specs.IndexLaws.{IsOneToOne}
use Rattle.build_outcome.specs.Outcome.{outcome_of}
use Rattle.build_outcome.specs.OutcomeLaws.{IsRepeat, repeated_key}
use Rattle.hem_build.specs.Answers.{outcome_data}
use Rattle.hem_build.specs.declared.refusal.Refusal.{Refusal}
use Rattle.hem_build.specs.declared.refusal.Refusal.TheVariants.{RepeatedKey}

-- an index gives its keys the numbers below their count, each to one
pub built_one_to_one : (rules : Rules) (keys : List (List ℕ)) (seeds : List ℕ) (answer : Result IndexData Refusal) → AreRules rules →
    outcome_data answer ≡ outcome_of rules keys seeds → IfOk answer (λ index. IsOneToOne index keys)
built_one_to_one rules keys seeds (Ok index) ranges is = built-IsOneToOne rules keys seeds index ranges (sym is)
built_one_to_one rules keys seeds (Err refusal) ranges is = tt

-- its keys are pairwise different
pub built_distinct : (rules : Rules) (keys : List (List ℕ)) (seeds : List ℕ) (answer : Result IndexData Refusal) → AreRules rules →
    outcome_data answer ≡ outcome_of rules keys seeds → IfOk answer (λ index. AreDistinctKeys keys)
built_distinct rules keys seeds (Ok index) ranges is = built-AreDistinctKeys rules keys seeds index ranges (sym is)
built_distinct rules keys seeds (Err refusal) ranges is = tt

-- keys that are refused for a repeat have one there
pub refused_repeat : (rules : Rules) (keys : List (List ℕ)) (seeds : List ℕ) (answer : Result IndexData Refusal) (i j : ℕ) →
    outcome_data answer ≡ outcome_of rules keys seeds → IsErrOf answer (RepeatedKey i j) → IsRepeat keys i j
refused_repeat rules keys seeds (Ok index) i j is refused = absurd cc
refused_repeat rules keys seeds (Err refusal) i j is refused =
    let same : refusal ≡ RepeatedKey i j = cc in
    repeated_key rules keys [] seeds i j (sym is ∙ ap (λ (r : Refusal). outcome_data (Err r)) same)
