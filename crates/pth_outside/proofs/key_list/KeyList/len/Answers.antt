use Rattle.std.proofs.Common.{ap, length, arith}
use Rattle.pth_outside.proofs.KeyBytesLemmas.{length-cut_at}
use Rattle.pth_outside.proofs.key_list.KeyList.len.Goals as goal

pub returns : goal.returns
returns c =
    let keys = c.self.inside in
    omega (arith, c.len.ensures, keys.ends.ok.0, length-cut_at 0 keys.ends.items keys.bytes.items, ap length c.self.view_is)
