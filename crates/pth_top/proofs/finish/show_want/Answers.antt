use Rattle.pth_top.proofs.Writes.{front_of_write}
use Rattle.pth_top.specs.Texts.{no_memory}
use Rattle.pth_top.proofs.finish.show_want.Goals as goal

pub returns-clause-text : goal.returns-clause-text
returns-clause-text g c =
    front_of_write no_memory (g.O.Sink.state c.args.out.now) (g.O.Sink.state c.write.new.self)
    c.write.result c.write.ensures.ok c.write.ensures.front c.write.ensures.kept
