use Rattle.std.proofs.Common.{Ok, refl}
use Rattle.command_words.specs.Words.{DemoOf}
use Rattle.pth_top.proofs.Commands.{answers_demo}
use Rattle.pth_top.proofs.Endings.{ends_command, not_repeated, silent_files}
use Rattle.pth_top.proofs.demo.demo_command.Goals as goal

pub returns-clause-ends : goal.returns-clause-ends
returns-clause-ends g c = λ files.
    ends_command (Ok (DemoOf c.args.keys.count c.args.keys.seed)) c.demo-answer.result c.finish_text.result files files files
    (g.O.Sink.state c.args.out.now) (g.O.Sink.state c.finish_text.new.out)
    (answers_demo c.args.keys.count c.args.keys.seed c.demo-answer.result files c.demo-answer.ensures.done c.demo-answer.ensures.memory)
    (c.finish_text.ensures.done files) c.finish_text.ensures.undone (λ stopped. refl)

pub returns-clause-distinct : goal.returns-clause-distinct
returns-clause-distinct g c =
    not_repeated c.demo-answer.result c.finish_text.result silent_files silent_files (g.O.Sink.state c.args.out.now) (g.O.Sink.state c.finish_text.new.out)
    (c.finish_text.ensures.done silent_files) c.finish_text.ensures.undone c.demo-answer.ensures.distinct
