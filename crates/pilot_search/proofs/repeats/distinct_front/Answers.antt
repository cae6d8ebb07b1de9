use Rattle.std.proofs.Common.{ℕ, List, ◌≡◌, ◌<◌, true, false, length, take, get_or, sym, ◌∙◌, refl, subst, arith}
use Rattle.std.proofs.lemmas.Bool.{not-true}
use Rattle.std.proofs.lemmas.List.{take_more}
use Rattle.pthash.specs.Search.{is_among}
use Rattle.pilot_search.specs.Marking.{AreMarks}
use Rattle.pilot_search.proofs.Fitting.{repeats_at, distinct_at, known_from_not}
use Rattle.pilot_search.proofs.repeats.distinct_front.Goals as goal

pub returns-then-not-mark_new-clause-some : goal.returns-then-not-mark_new-clause-some
returns-then-not-mark_new-clause-some c = λ _.
    let numbers : List ℕ = c.args.numbers.now in
    let i : ℕ = c.loop-i.i in
    let number : ℕ = get_or numbers i 0 in
    let again : is_among (take i numbers) number ≡ true =
    known_from_not (is_among (take i numbers) number) (sym c.mark_new.ensures.new ∙ c.if-not-mark_new.true) in
    repeats_at numbers i number (omega arith) refl again

pub loop-i-preserved : goal.loop-i-preserved
loop-i-preserved c =
    let numbers : List ℕ = c.args.numbers.now in
    let i : ℕ = c.loop-i.i in
    let in_range : i < length numbers = omega arith in
    let number : ℕ = get_or numbers i 0 in
    let new : is_among (take i numbers) number ≡ false =
    not-true (is_among (take i numbers) number) (sym c.mark_new.ensures.new ∙ c.if-not-mark_new.false) in
    record {
      distinct = distinct_at numbers i number in_range refl c.loop-i.invariant.distinct new;
      marks = subst (AreMarks c.mark_new.new.marks) (sym (take_more numbers i 0 in_range)) (c.mark_new.ensures.marked c.if-not-mark_new.false);
    }
