use Rattle.std.proofs.Common.{Ok, ap}
use Rattle.command_words.specs.Words.{StatsOf}
use Rattle.pth_top.proofs.Commands.{answers_stats}
use Rattle.pth_top.proofs.Endings.{ends_command}
use Rattle.pth_top.proofs.stats.stats_command.Goals as goal

pub returns : goal.returns
returns g c =
    let old = g.F.Files.state c.args.files.now in
    let now = g.F.Files.state c.stats-answer.new.files in
    ends_command (Ok (StatsOf c.args.index.now)) c.stats-answer.result c.finish.result old now
    (g.F.Files.state c.finish.new.files) (g.O.Sink.state c.args.out.now) (g.O.Sink.state c.finish.new.out)
    (answers_stats c.args.index.now c.stats-answer.result old now c.stats-answer.ensures.done c.stats-answer.ensures.leaves)
    c.finish.ensures.done c.finish.ensures.undone (λ stopped. ap g.F.Files.state (c.finish.ensures.no_call stopped))
