use Rattle.std.proofs.Common.{append_assoc, rules}
use Rattle.pth_top.specs.Demo.{tried_line}
use Rattle.pth_top.proofs.demo.push_one.Goals as goal

pub returns : goal.returns
unfolding tried_line
returns c = search (rules, append_assoc)
