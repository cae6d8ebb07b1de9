use Rattle.std.proofs.Common.{◌≡◌, [], drop}
use Rattle.build_outcome.specs.Outcome.{outcome_from}
use Rattle.settings.specs.Settings.{settings_data}
use Rattle.hem_build.specs.Rules.{rules_of}
use Rattle.hem_build.proofs.build.try_seeds.Given as goal

abbrev pub invariant-loop-seed : goal.invariant-loop-seed
invariant-loop-seed g l =
    outcome_from (rules_of (settings_data l.settings)) l.keys [] l.settings.seeds.items
    ≡ outcome_from (rules_of (settings_data l.settings)) l.keys l.causes.items (drop l.seed-index l.settings.seeds.items)
