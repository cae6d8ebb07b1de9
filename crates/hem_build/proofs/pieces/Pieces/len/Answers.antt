use Rattle.std.proofs.Common.{length, sym, ap, ◌∙◌}
use Rattle.hem_build.proofs.Gathering.{length-all_gathered}
use Rattle.hem_build.proofs.pieces.Pieces.len.Goals as goal

pub returns : goal.returns
returns c = sym (length-all_gathered c.self.inside.list.items c.self.inside.parts) ∙ ap length c.self.view_is
