use Rattle.std.proofs.Common.{ap, sym, ◌∙◌, subst, ◌++◌, ◌∷◌, []}
use Rattle.word_bits.specs.Bits.{set_bit}
use Rattle.pilot_search.specs.Marking.{AreMarks}
use Rattle.pilot_search.proofs.MarkLemmas.{marked_more}
use Rattle.pilot_search.proofs.repeats.mark_new.Goals as goal

pub returns-clause-marked : goal.returns-clause-marked
returns-clause-marked c = λ _.
    subst (λ ws. AreMarks ws (c.args.earlier.now ++ c.args.number ∷ []))
    (sym (c.set_bit.ensures ∙ ap (set_bit c.args.marks.now 0) c.mark-bit.ensures.value))
    (marked_more c.args.marks.now c.args.earlier.now c.args.number c.requires)
