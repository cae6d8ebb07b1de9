use Rattle.std.proofs.Common.{append_assoc, rules}
use Rattle.pth_top.specs.Texts.{word_of_two}
use Rattle.pth_top.proofs.read.push_two.Goals as goal

pub returns : goal.returns
unfolding word_of_two
returns c = search (rules, append_assoc)
