use Rattle.std.proofs.Common.{Ok, ap}
use Rattle.command_words.specs.Words.{CheckOf}
use Rattle.pth_top.proofs.Commands.{answers_check}
use Rattle.pth_top.proofs.Endings.{ends_command}
use Rattle.pth_top.proofs.check.check_command.Goals as goal

pub returns : goal.returns
returns g c =
    let old = g.F.Files.state c.args.files.now in
    let now = g.F.Files.state c.check-answer.new.files in
    ends_command (Ok (CheckOf c.args.index.now c.args.keys.now)) c.check-answer.result c.finish.result old now
    (g.F.Files.state c.finish.new.files) (g.O.Sink.state c.args.out.now) (g.O.Sink.state c.finish.new.out)
    (answers_check c.args.index.now c.args.keys.now c.check-answer.result old now c.check-answer.ensures.done c.check-answer.ensures.leaves)
    c.finish.ensures.done c.finish.ensures.undone (λ stopped. ap g.F.Files.state (c.finish.ensures.no_call stopped))
