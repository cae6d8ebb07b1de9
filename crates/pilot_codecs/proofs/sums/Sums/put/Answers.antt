use Rattle.std.proofs.Common.{ℕ, ◌++◌, List, sym, ap, ◌∙◌}
use Rattle.elias_fano.specs.Spelling.{ef_text}
use Rattle.pilot_codecs.specs.Spelling.{sums_from}
use Rattle.pilot_codecs.proofs.SumLemmas.{sums_from-steps_from}
use Rattle.pilot_codecs.proofs.sums.Sums.put.Goals as goal

pub returns-clause-ok : goal.returns-clause-ok
returns-clause-ok c = c.in_ok-write.ensures.ok
    ∙ ap (λ (ss : List ℕ). c.args.out.now.items ++ ef_text ss) (sym (sums_from-steps_from 0 c.self.inside.list c.self.invariant.rising))
    ∙ ap (λ (vs : List ℕ). c.args.out.now.items ++ ef_text (sums_from 0 vs)) c.self.view_is
