use Rattle.std.proofs.Common.{◌≡◌, Result, Ok, Err, sym, ap, ◌∙◌, subst}
use Rattle.command_words.specs.declared.faults.WordFault.{WordFault}
use Rattle.command_words.specs.declared.words.Command.{Command}
use Rattle.command_words.specs.Options.{words_of}
use Rattle.command_words.specs.Refusals.{IfBad}
use Rattle.command_words.specs.Words.{CommandData, command_data, command_of}
use Rattle.pth_top.specs.Ending.{Ends, EndsAs}
use Rattle.pth_top.specs.Words.{refused}
use Rattle.pth_top.proofs.top.run_words.Goals as goal

pub returns-in-Err-Bad-clause-ends : goal.returns-in-Err-Bad-clause-ends
returns-in-Err-Bad-clause-ends g c =
    let files = g.F.Files.state c.args.files.now in
    let bad = subst (IfBad (λ fault. command_of (words_of c.args.words.now) ≡ Err fault)) c.in-Err-Bad.field-0-is c.in-Err-Bad.ensures.bad in
    subst (λ (command : Result CommandData WordFault). Ends command c.refuse.result files files
    (g.O.Sink.state c.args.out.now) (g.O.Sink.state c.refuse.new.out)) (sym bad) (c.refuse.ensures.ends files)

pub returns-in-Err-Bad-clause-refused : goal.returns-in-Err-Bad-clause-refused
returns-in-Err-Bad-clause-refused g c = λ fault is known.
    let files = g.F.Files.state c.args.files.now in
    let bad = subst (IfBad (λ fault. command_of (words_of c.args.words.now) ≡ Err fault)) c.in-Err-Bad.field-0-is c.in-Err-Bad.ensures.bad in
    let same : c.in-Err-Bad.fault ≡ fault = cc in
    subst (λ (f : WordFault). EndsAs (refused f) c.refuse.result (g.O.Sink.state c.args.out.now) (g.O.Sink.state c.refuse.new.out)
    files.told files.told) same (c.refuse.ensures.refused files known)

pub returns-in-Ok-Demo-clause-ends : goal.returns-in-Ok-Demo-clause-ends
returns-in-Ok-Demo-clause-ends g c =
    let files = g.F.Files.state c.args.files.now in
    let known = c.in-Ok-Demo.ensures.ok ∙ ap (λ (command : Command). Ok (command_data command)) c.in-Ok-Demo.field-0-is in
    subst (λ (command : Result CommandData WordFault). Ends command c.demo_command.result files files
    (g.O.Sink.state c.args.out.now) (g.O.Sink.state c.demo_command.new.out)) (sym known) (c.demo_command.ensures.ends files)

pub returns-in-Ok-Demo-clause-demo : goal.returns-in-Ok-Demo-clause-demo
returns-in-Ok-Demo-clause-demo g c = λ count seed is any.
    let known = c.in-Ok-Demo.ensures.ok ∙ ap (λ (command : Command). Ok (command_data command)) c.in-Ok-Demo.field-0-is in
    subst (λ (command : Result CommandData WordFault). Ends command c.demo_command.result any any
    (g.O.Sink.state c.args.out.now) (g.O.Sink.state c.demo_command.new.out)) (sym known ∙ is) (c.demo_command.ensures.ends any)
