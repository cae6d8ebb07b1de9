use Rattle.std.proofs.Common.{arith, sym}
use Rattle.pth_outside.proofs.KeyBytesLemmas.{begin_at-later}
use Rattle.pth_outside.proofs.key_list.begin_of.Goals as goal

pub returns-else-place-eq0 : goal.returns-else-place-eq0
returns-else-place-eq0 c = sym (begin_at-later 0 c.args.ends.now c.args.place (omega arith))
