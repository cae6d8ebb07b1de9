use Rattle.std.specs.Prelude.{slice_index, ◌+◌}
use Rattle.settings.specs.Settings.{settings_data}
use Rattle.hem_build.proofs.Grouping.{IsBuiltTo}
use Rattle.hem_build.specs.Rules.{rules_of}
use Rattle.hem_build.proofs.groups.build_group.Given as goal

abbrev pub invariant-loop-number : goal.invariant-loop-number
invariant-loop-number g l =
    IsBuiltTo (rules_of (settings_data l.settings)) l.seed l.partitions (slice_index l.starts l.group) (slice_index l.starts (l.group + 1))
    l.number l.built.items
