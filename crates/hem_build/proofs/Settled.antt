-- What the settings of a build keep, and what follows for its rules.
use Rattle.std.specs.Prelude.{◌≡◌, ℕ, ◌^◌, ◌<◌, ◌≤◌, List, length, Some}
use Rattle.std.proofs.Common.{sym, subst}
use Rattle.pthash.specs.declared.TheConstants.{MAX_KEYS}
use Rattle.bucket_map.specs.ShapeData.{IsShape-shape_data}
use Rattle.settings.specs.declared.settings.Settings.{Settings}
use Rattle.settings.specs.Settings.{settings_data}
use Rattle.build_outcome.specs.Attempt.{Rules, AreRules, complete, attempt_of}
use Rattle.build_outcome.specs.AttemptLaws.{complete-parts}
use Rattle.build_outcome.specs.Index.{PartData, KeyMarkData}
use Rattle.build_outcome.specs.Mark.{mark_of}
use Rattle.build_outcome.specs.Validity.{IsValidIndex}
use Rattle.build_outcome.specs.ValidityLaws.{index_of-IsValidIndex}
use Rattle.hem_build.specs.Rules.{rules_of}

-- the rules are in their ranges
pub AreRules-rules_of : (s : Settings) → AreRules (rules_of (settings_data s))
AreRules-rules_of s = record {
  shape = IsShape-shape_data s.shape;
  some_part = s.some_partition;
  few_parts = s.few_partitions;
  some_pilot = s.some_pilot;
  few_pilots = s.few_pilots;
}

-- the index of a complete attempt is valid
pub valid_attempt : (rules : Rules) (keys : List (List ℕ)) (seed n : ℕ) (parts : List PartData) (mark : KeyMarkData) →
    AreRules rules → seed < 2 ^ 64 →
    1 ≤ length keys → length keys ≤ MAX_KEYS → n ≡ length keys → mark ≡ mark_of keys seed → complete parts ≡ attempt_of rules keys seed →
    IsValidIndex (record { seed = seed; n = n; shape = rules.shape; parts = parts; mark = Some mark })
valid_attempt rules keys seed n parts mark ranges fits some few count marked ends =
    subst (λ m. IsValidIndex (record { seed = seed; n = n; shape = rules.shape; parts = parts; mark = Some m })) (sym marked)
    (subst (λ k. IsValidIndex (record { seed = seed; n = k; shape = rules.shape; parts = parts; mark = Some (mark_of keys seed) })) (sym count)
    (index_of-IsValidIndex rules keys seed parts ranges fits some few (complete-parts rules keys seed parts (sym ends))))
