use Rattle.std.proofs.Common.{length, sym, ap, ◌∙◌}
use Rattle.pilot_codecs.proofs.SumLemmas.{length-steps_from}
use Rattle.pilot_codecs.proofs.sums.Sums.len.Goals as goal

pub returns : goal.returns
returns c = c.len.ensures.value ∙ sym (length-steps_from 0 c.self.inside.list) ∙ ap length c.self.view_is
