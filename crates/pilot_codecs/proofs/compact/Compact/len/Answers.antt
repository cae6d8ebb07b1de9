use Rattle.std.proofs.Common.{length, sym, ap, ◌∙◌}
use Rattle.pilot_codecs.proofs.CompactLemmas.{length-values_in}
use Rattle.pilot_codecs.proofs.compact.Compact.len.Goals as goal

pub returns : goal.returns
returns c = sym (length-values_in c.self.inside.count c.self.inside.width c.self.inside.words.items) ∙ ap length c.self.view_is
