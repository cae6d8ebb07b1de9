use Rattle.std.proofs.Common.{append_assoc, rules}
use Rattle.pth_top.specs.Texts.{differs}
use Rattle.pth_top.proofs.marks.differs_text.Goals as goal

pub returns : goal.returns
unfolding differs
returns c = search (rules, append_assoc)
