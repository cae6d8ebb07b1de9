use Rattle.std.proofs.Common.{None, refl, sym, subst, ◌∙◌}
use Rattle.command_words.specs.Values.{IsPlain}
use Rattle.command_words.proofs.Numbers.{number_of-plain, number_of-not_plain, spelled_by, spells}
use Rattle.command_words.proofs.number.number.Goals as goal

pub returns-then-is_plain-clause-value : goal.returns-then-is_plain-clause-value
returns-then-is_plain-clause-value c =
    let plain = subst IsPlain c.as_bytes.ensures.value (c.if-is_plain.ensures.0 refl) in
    c.ok.ensures.value ∙ number_of-plain c.args.text.now c.parse.result c.parse.ensures.value.0 plain

pub returns-then-is_plain-clause-spelled : goal.returns-then-is_plain-clause-spelled
returns-then-is_plain-clause-spelled c = spelled_by c.args.text.now c.ok.result (returns-then-is_plain-clause-value c)

pub returns-then-is_plain-clause-all : goal.returns-then-is_plain-clause-all
returns-then-is_plain-clause-all c = spells c.args.text.now c.ok.result (returns-then-is_plain-clause-value c)

pub returns-else-is_plain-clause-value : goal.returns-else-is_plain-clause-value
returns-else-is_plain-clause-value c =
    sym (number_of-not_plain c.args.text.now (λ plain. let plain_too = c.if-is_plain.ensures.1 (subst IsPlain (sym c.as_bytes.ensures.value) plain) in cc))

pub returns-else-is_plain-clause-all : goal.returns-else-is_plain-clause-all
returns-else-is_plain-clause-all c = spells c.args.text.now None (returns-else-is_plain-clause-value c)
