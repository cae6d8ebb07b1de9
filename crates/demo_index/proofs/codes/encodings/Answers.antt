use Rattle.std.proofs.Common.{arith}
use Rattle.demo_index.proofs.Lists.{lists_all}
use Rattle.demo_index.proofs.codes.encodings.Goals as goal

pub returns : goal.returns
returns c = lists_all c.loop-i.list.items c.loop-i.i (omega arith) c.loop-i.invariant
