use Rattle.std.proofs.Common.{append_assoc, rules}
use Rattle.pth_top.specs.Texts.{encoding_name}
use Rattle.pth_top.proofs.text.push_encoding.Goals as goal

pub returns : goal.returns
unfolding encoding_name
returns c = search (rules, append_assoc)
