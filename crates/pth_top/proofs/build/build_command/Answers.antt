use Rattle.std.proofs.Common.{Ok, ap}
use Rattle.command_words.specs.Options.{options_data}
use Rattle.command_words.specs.Words.{BuildOf}
use Rattle.pth_top.proofs.Commands.{answers_build}
use Rattle.pth_top.proofs.Endings.{ends_command}
use Rattle.pth_top.proofs.build.build_command.Goals as goal

pub returns : goal.returns
returns g c =
    let old = g.F.Files.state c.args.files.now in
    let now = g.F.Files.state c.build-answer.new.files in
    ends_command (Ok (BuildOf c.args.keys.now c.args.index.now (options_data c.args.options.now))) c.build-answer.result c.finish.result old now
    (g.F.Files.state c.finish.new.files) (g.O.Sink.state c.args.out.now) (g.O.Sink.state c.finish.new.out)
    (answers_build c.args.keys.now c.args.index.now (options_data c.args.options.now) c.build-answer.result old now
    c.build-answer.ensures.done c.build-answer.ensures.index c.build-answer.ensures.leaves)
    c.finish.ensures.done c.finish.ensures.undone (λ stopped. ap g.F.Files.state (c.finish.ensures.no_call stopped))
