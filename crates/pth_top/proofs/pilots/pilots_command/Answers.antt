use Rattle.std.proofs.Common.{Ok, ap}
use Rattle.command_words.specs.Options.{options_data}
use Rattle.command_words.specs.Words.{PilotsOf}
use Rattle.pth_top.proofs.Commands.{answers_pilots}
use Rattle.pth_top.proofs.Endings.{ends_command}
use Rattle.pth_top.proofs.pilots.pilots_command.Goals as goal

pub returns : goal.returns
returns g c =
    let old = g.F.Files.state c.args.files.now in
    let now = g.F.Files.state c.pilots-answer.new.files in
    ends_command (Ok (PilotsOf c.args.keys.now (options_data c.args.options.now))) c.pilots-answer.result c.finish.result old now
    (g.F.Files.state c.finish.new.files) (g.O.Sink.state c.args.out.now) (g.O.Sink.state c.finish.new.out)
    (answers_pilots c.args.keys.now (options_data c.args.options.now) c.pilots-answer.result old now
    c.pilots-answer.ensures.done c.pilots-answer.ensures.leaves)
    c.finish.ensures.done c.finish.ensures.undone (λ stopped. ap g.F.Files.state (c.finish.ensures.no_call stopped))
