use Rattle.settings.specs.Settings.{settings_data}
use Rattle.hem_build.proofs.Grouping.{part_answer}
use Rattle.hem_build.proofs.groups.build_records.Goals as goal

pub returns : goal.returns
returns g c =
    part_answer (settings_data c.args.settings.now) c.args.seed c.args.records.now c.build_part_with.result c.build_part_with.ensures
