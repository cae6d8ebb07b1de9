use Rattle.std.proofs.Common.{arith, sym, ap, ◌∙◌}
use Rattle.settings.specs.Settings.{settings_data}
use Rattle.hem_build.specs.Answers.{attempt_data}
use Rattle.hem_build.specs.Rules.{rules_of}
use Rattle.hem_build.proofs.Outcomes.{places_of_clash}
use Rattle.hem_build.proofs.Settled.{AreRules-rules_of, valid_attempt}
use Rattle.hem_build.proofs.build.try_seeds.Goals as goal

pub new-requires : goal.new-requires
new-requires g c =
    let rules = rules_of (settings_data c.args.settings.now) in
    valid_attempt rules c.args.keys.now _ c.len.result c.in-Complete.parts.items c.in-Complete.mark (AreRules-rules_of c.args.settings.now)
    c.type_inv.seed.fits c.requires.some c.requires.few c.len.ensures (rw c.in-Complete.is at c.in_ok-parts.ensures.mark)
    (ap attempt_data (sym c.in-Complete.is) ∙ c.in_ok-parts.ensures.attempt)

pub are_equal-requires-clause-first_inside : goal.are_equal-requires-clause-first_inside
are_equal-requires-clause-first_inside g c =
    let clashed = ap attempt_data (sym c.in-Clashed.is) ∙ c.in_ok-parts.ensures.attempt in
    let places = places_of_clash (rules_of (settings_data c.args.settings.now)) c.args.keys.now _ c.in-Clashed.first c.in-Clashed.second clashed in
    omega (arith, places.earlier, places.within)

pub are_equal-requires-clause-second_inside : goal.are_equal-requires-clause-second_inside
are_equal-requires-clause-second_inside g c =
    let clashed = ap attempt_data (sym c.in-Clashed.is) ∙ c.in_ok-parts.ensures.attempt in
    (places_of_clash (rules_of (settings_data c.args.settings.now)) c.args.keys.now _ c.in-Clashed.first c.in-Clashed.second clashed).within
