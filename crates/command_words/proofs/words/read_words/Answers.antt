use Rattle.std.proofs.Common.{◌≡◌, Ok, Err, sym, ap, subst, ◌∙◌}
use Rattle.std.specs.Prelude.{IfOk, IfErr}
use Rattle.command_words.specs.Options.{words_of}
use Rattle.command_words.specs.Refusals.{IfBad}
use Rattle.command_words.specs.Words.{command_data, name_of, command_of}
use Rattle.command_words.proofs.Commands.{command_of-nothing, command_of-named}
use Rattle.command_words.proofs.words.read_words.Goals as goal

pub returns-in_default-clause-bad : goal.returns-in_default-clause-bad
returns-in_default-clause-bad c =
    subst (IfBad (λ fault. command_of (words_of c.args.words.now) ≡ Err fault)) (sym c.bad.ensures)
    (command_of-nothing c.args.words.now c.in_default.ensures.cases)

pub returns-in_default-name_in-clause-bad : goal.returns-in_default-name_in-clause-bad
returns-in_default-name_in-clause-bad c =
    let none = command_of-named c.args.words.now c.in-Some.command.now c.in-Some.rest.now _ c.in-Some.ensures.cases.0
    (sym c.in_default-name_in.is ∙ c.name_in.ensures ∙ ap name_of c.deref.ensures) in
    subst (IfBad (λ fault. command_of (words_of c.args.words.now) ≡ Err fault)) (sym c.bad-in_default-name_in.ensures) none

pub returns-clause-ok : goal.returns-clause-ok
returns-clause-ok c =
    let named = command_of-named c.args.words.now c.in-Some.command.now c.in-Some.rest.now _ c.in-Some.ensures.cases.0
    (sym c.in-Some-name_in.is ∙ c.name_in.ensures ∙ ap name_of c.deref.ensures) in
    subst (λ d. IfOk c.read_command.result (λ command. d ≡ Ok (command_data command))) (sym named) c.read_command.ensures.ok

pub returns-clause-bad : goal.returns-clause-bad
returns-clause-bad c =
    let named = command_of-named c.args.words.now c.in-Some.command.now c.in-Some.rest.now _ c.in-Some.ensures.cases.0
    (sym c.in-Some-name_in.is ∙ c.name_in.ensures ∙ ap name_of c.deref.ensures) in
    subst (λ d. IfErr c.read_command.result (IfBad (λ fault. d ≡ Err fault))) (sym named) c.read_command.ensures.bad
