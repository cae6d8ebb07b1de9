use Rattle.std.proofs.Common.{Ok, ap}
use Rattle.command_words.specs.Words.{QueryOf}
use Rattle.pth_top.proofs.Commands.{answers_query}
use Rattle.pth_top.proofs.Endings.{ends_command}
use Rattle.pth_top.proofs.query.query_command.Goals as goal

pub returns : goal.returns
returns g c =
    let old = g.F.Files.state c.args.files.now in
    let now = g.F.Files.state c.query-answer.new.files in
    ends_command (Ok (QueryOf c.args.index.now c.args.queries.now)) c.query-answer.result c.finish.result old now
    (g.F.Files.state c.finish.new.files) (g.O.Sink.state c.args.out.now) (g.O.Sink.state c.finish.new.out)
    (answers_query c.args.index.now c.args.queries.now c.query-answer.result old now c.query-answer.ensures.done c.query-answer.ensures.leaves)
    c.finish.ensures.done c.finish.ensures.undone (λ stopped. ap g.F.Files.state (c.finish.ensures.no_call stopped))
