-- The settings that an outcome depends on.
use Rattle.settings.specs.Settings.{SettingsData}
use Rattle.build_outcome.specs.Attempt.{Rules}
use Rattle.build_outcome.specs.OnePart.{one_part}

-- how partitions are searched is not among them
abbrev pub rules_of : SettingsData → Rules
rules_of s = record { shape = s.shape; parts = s.parts; limit = s.limit }

-- the same for a partition by itself
abbrev pub one_rule : SettingsData → Rules
one_rule s = one_part s.shape s.limit
