use Rattle.std.proofs.Common.{ℕ, ◌+◌, ◌++◌, List, [], ◌∷◌, take, get_or, refl, sym, ap, ◌∙◌, arith}
use Rattle.pilot_codecs.specs.Spelling.{sums_from}
use Rattle.pilot_codecs.proofs.FieldLemmas.{get_or-le-greatest}
use Rattle.pilot_codecs.proofs.SumLemmas.{total-more, sums_from-more, sums_from-nil}
use Rattle.pilot_codecs.proofs.sums.sums_of.Goals as goal

pub loop-value-init : goal.loop-value-init
loop-value-init c = record { so_far = c.in_ok-sums.ensures.items ∙ sums_from-nil; total_is = refl; most = omega arith }

pub overflow_add-total : goal.overflow_add-total
overflow_add-total c = omega (
  arith,
  c.loop-value.invariant.most,
  c.loop-value-test.true,
  c.requires.few,
  c.requires.small,
  get_or-le-greatest c.args.values.now c.loop-value.value-index,
)

pub loop-value-preserved : goal.loop-value-preserved
loop-value-preserved c =
    let vs = c.args.values.now in
    let i = c.loop-value.value-index in
    let inv = c.loop-value.invariant in
    let t = inv.total_is in
    record {
      so_far = c.in_ok-push.ensures.items ∙ ap (λ (ss : List ℕ). ss ++ (c.loop-value.total + get_or vs i 0) ∷ []) inv.so_far
          ∙ ap (λ (x : ℕ). sums_from 0 (take i vs) ++ (x + get_or vs i 0) ∷ []) t ∙ sym (sums_from-more vs i c.loop-value-test.true);
      total_is = omega (arith, t, total-more vs i c.loop-value-test.true);
      most = omega (arith, inv.most, c.requires.small, get_or-le-greatest vs i);
    }
