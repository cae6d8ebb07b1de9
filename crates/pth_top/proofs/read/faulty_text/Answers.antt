use Rattle.std.proofs.Common.{append_assoc, rules}
use Rattle.pth_top.specs.Texts.{index_refused}
use Rattle.pth_top.proofs.read.faulty_text.Goals as goal

pub returns : goal.returns
unfolding index_refused
returns c = search (rules, append_assoc)
