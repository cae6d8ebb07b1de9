use Rattle.std.proofs.Common.{◌≡◌, Ok, Err, sym}
use Rattle.settings.specs.Settings.{settings_data}
use Rattle.build_outcome.specs.AttemptLaws.{parts_of, attempt_of-complete}
use Rattle.hem_build.specs.Rules.{rules_of}
use Rattle.hem_build.proofs.Attempts.{clashed_attempt, stuck_attempt}
use Rattle.hem_build.proofs.Settled.{AreRules-rules_of}
use Rattle.hem_build.proofs.attempt.try_seed.Goals as goal

pub returns-in-Ok-clause-attempt : goal.returns-in-Ok-clause-attempt
returns-in-Ok-clause-attempt g c =
    let rules = rules_of (settings_data c.args.settings.now) in
    let built : parts_of rules c.args.keys.now c.args.seed ≡ Ok c.in-Ok.field-0.parts.items = rw c.in-Ok.is at c.in_ok-parts.ensures.parts in
    sym (attempt_of-complete rules c.args.keys.now c.args.seed c.in-Ok.field-0.parts.items (AreRules-rules_of c.args.settings.now) built)

pub returns-in-Some-clause-attempt : goal.returns-in-Some-clause-attempt
returns-in-Some-clause-attempt g c =
    let rules = rules_of (settings_data c.args.settings.now) in
    let ends : parts_of rules c.args.keys.now c.args.seed ≡ Err (c.in-Err.stuck.part, c.in-Err.stuck.bucket) =
    rw c.in-Err.is at c.in_ok-parts.ensures.stuck in
    clashed_attempt rules c.args.keys.now c.args.seed c.in-Err.stuck.part c.in-Err.stuck.bucket c.in-Some.first c.in-Some.second
    c.in_ok-first-in-Err.field-0 ends c.in_ok-first-in-Err.ensures c.in-Some.is

pub returns-in-None-clause-attempt : goal.returns-in-None-clause-attempt
returns-in-None-clause-attempt g c =
    let rules = rules_of (settings_data c.args.settings.now) in
    let ends : parts_of rules c.args.keys.now c.args.seed ≡ Err (c.in-Err.stuck.part, c.in-Err.stuck.bucket) =
    rw c.in-Err.is at c.in_ok-parts.ensures.stuck in
    stuck_attempt rules c.args.keys.now c.args.seed c.in-Err.stuck.part c.in-Err.stuck.bucket
    c.in_ok-first-in-Err.field-0 ends c.in_ok-first-in-Err.ensures c.in-None.is
