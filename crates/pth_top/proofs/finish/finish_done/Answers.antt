use Rattle.pth_top.specs.Done.{done_of}
use Rattle.pth_top.proofs.Endings.{finishes_shown, some_file}
use Rattle.pth_top.proofs.finish.finish_done.Goals as goal

pub returns-in-Ok : goal.returns-in-Ok
returns-in-Ok g c =
    let answer = c.args.answer.now in
    finishes_shown (done_of answer) c.show.result c.as_bytes.result.now (g.F.Files.state c.args.files.now)
    (g.F.Files.state c.write_new.new.files) (g.O.Sink.state c.args.out.now) (g.O.Sink.state c.show.new.out)
    c.as_bytes.ensures.value answer.own answer.few (λ some. answer.done (some_file answer.file some)) c.in-Ok.ensures.ok c.in-Ok.ensures.leaves
    (record {
      answers = c.show.ensures.answers;
      shown = c.show.ensures.shown;
      whole = c.show.ensures.whole;
      done = c.show.ensures.done;
      front = c.show.ensures.front;
      memory = c.show.ensures.memory;
      leaves = c.show.ensures.leaves;
    })
