use Rattle.settings.specs.Settings.{settings_data}
use Rattle.hem_build.specs.Rules.{rules_of}
use Rattle.hem_build.proofs.Endings.{built_one_to_one, built_distinct, refused_repeat}
use Rattle.hem_build.proofs.Settled.{AreRules-rules_of}
use Rattle.hem_build.proofs.build.build_keys.Goals as goal

pub returns-in-Ok-clause-one_to_one : goal.returns-in-Ok-clause-one_to_one
returns-in-Ok-clause-one_to_one g c =
    let s = c.args.settings.now in
    built_one_to_one (rules_of (settings_data s)) c.args.keys.now s.seeds.items c.in-Ok.answer (AreRules-rules_of s) c.in-Ok.ensures

pub returns-in-Ok-clause-distinct : goal.returns-in-Ok-clause-distinct
returns-in-Ok-clause-distinct g c =
    let s = c.args.settings.now in
    built_distinct (rules_of (settings_data s)) c.args.keys.now s.seeds.items c.in-Ok.answer (AreRules-rules_of s) c.in-Ok.ensures

pub returns-in-Ok-clause-repeat : goal.returns-in-Ok-clause-repeat
returns-in-Ok-clause-repeat g c = λ i j refused.
    let s = c.args.settings.now in
    refused_repeat (rules_of (settings_data s)) c.args.keys.now s.seeds.items c.in-Ok.answer i j c.in-Ok.ensures refused
