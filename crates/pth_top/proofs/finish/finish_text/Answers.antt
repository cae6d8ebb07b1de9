use Rattle.std.proofs.Common.{◌≡◌, Result, None, IfOk, sym, subst}
use Rattle.pth_top.specs.declared.answer.Answer.{Answer}
use Rattle.pth_top.specs.declared.answer.Stop.{Stop}
use Rattle.pth_top.specs.Done.{done_of}
use Rattle.pth_top.specs.Ending.{Finishes}
use Rattle.pth_top.proofs.Endings.{finishes_text}
use Rattle.pth_top.proofs.finish.finish_text.Goals as goal

pub returns-in-Ok-clause-done : goal.returns-in-Ok-clause-done
returns-in-Ok-clause-done g c = λ files.
    let old = g.O.Sink.state c.args.out.now in
    let now = g.O.Sink.state c.show.new.out in
    let none = subst (λ (end : Result Answer Stop). IfOk end (λ answer. answer.file ≡ None)) c.in-Ok.is c.requires in
    subst (λ (end : Result Answer Stop). IfOk end (λ answer. Finishes (done_of answer) c.show.result files files old now)) (sym c.in-Ok.is)
    (finishes_text c.in-Ok.answer c.show.result c.as_bytes.result.now files old now c.as_bytes.ensures.value none
    (record {
      answers = c.show.ensures.answers;
      shown = c.show.ensures.shown;
      whole = c.show.ensures.whole;
      done = c.show.ensures.done;
      front = c.show.ensures.front;
      memory = c.show.ensures.memory;
      leaves = c.show.ensures.leaves;
    }))
