use Rattle.std.proofs.Common.{append_assoc, rules}
use Rattle.pth_top.specs.Demo.{keys_line}
use Rattle.pth_top.proofs.demo.push_keys.Goals as goal

pub returns : goal.returns
unfolding keys_line
returns c = search (rules, append_assoc)
