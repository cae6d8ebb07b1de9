use Rattle.std.proofs.Common.{◌≡◌, length, ap, arith}
use Rattle.settings.specs.Settings.{settings_data}
use Rattle.hem_build.specs.Rules.{rules_of}
use Rattle.hem_build.proofs.Grouping.{group_answers_all}
use Rattle.hem_build.proofs.groups.build_partitions.Goals as goal

pub join_groups-requires-clause-answers : goal.join_groups-requires-clause-answers
join_groups-requires-clause-answers g c =
    let starts = c.as_slice-starts.result.now in
    let answers = c.in_ok-answers.answers in
    let bounds = c.in_ok-bounds.ensures.count in
    let same : length starts ≡ length c.in_ok-bounds.bounds.items = ap length c.as_slice-starts.ensures.value in
    let count : length answers.items ≡ c.group_count-groups.result = omega (arith, answers.ok.0, c.in_ok-answers.ensures.len) in
    group_answers_all (rules_of (settings_data c.args.settings.now)) c.args.seed c.args.partitions.now starts answers.items (omega arith)
    (λ i d within. (c.in_ok-answers.ensures.each i d (omega arith)).1.met)
