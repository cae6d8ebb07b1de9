use Rattle.std.proofs.Common.{arith, add-one, sym, ◌∙◌}
use Rattle.std.proofs.lemmas.Bool.{false≢true}
use Rattle.std.proofs.lemmas.Slice.Eq.{bytes_eq-Decides}
use Rattle.pth_outside.proofs.SlotLemmas.{none_more, slot_found, none_at_end}
use Rattle.pth_outside.proofs.slots.find.Goals as goal

pub returns-then-eq-clause-found : goal.returns-then-eq-clause-found
returns-then-eq-clause-found c =
    slot_found c.args.slots.now c.args.name.now c.loop-i.i c.index-slots-i.result (omega arith) c.index-slots-i.is
    (sym c.as_str.ensures.value ∙ (bytes_eq-Decides _ _).0 (sym c.eq.ensures ∙ c.if-eq.true)) c.loop-i.invariant

pub loop-i-preserved : goal.loop-i-preserved
loop-i-preserved c =
    rw add-one (none_more c.args.slots.now c.args.name.now c.loop-i.i c.index-slots-i.result (omega arith) c.index-slots-i.is
    (λ same. false≢true (sym c.if-eq.false ∙ c.eq.ensures ∙ (bytes_eq-Decides _ _).1 (c.as_str.ensures.value ∙ same))) c.loop-i.invariant)

pub returns-clause-none : goal.returns-clause-none
returns-clause-none c = none_at_end c.args.slots.now c.args.name.now c.loop-i.i (omega arith) c.loop-i.invariant
