use Rattle.std.proofs.Common.{◌+◌, get_or, arith}
use Rattle.std.proofs.lemmas.Nat.{ones-le}
use Rattle.bit_vector.proofs.WordOnes.{all_ones-more}
use Rattle.bit_vector.proofs.SampleLemmas.{IsSoFar, count_pushed, count_kept}
use Rattle.bit_vector.proofs.samples.counts_of.Goals as goal
use Rattle.bit_vector.proofs.samples.counts_of.Goals.{then-at-eq0+in_ok-push, else-at-eq0}

pub loop-at-preserved : goal.loop-at-preserved
loop-at-preserved c =
    let words = c.args.words.now in
    let at = c.loop-at.at in
    let inv = c.loop-at.invariant in
    let more = all_ones-more words at c.loop-at-test.true in
    let few = ones-le 64 (get_or words at 0) (omega (arith, c.type_inv.words at)) in
    let so_far : IsSoFar words c.loop-at.counts.items at = record { len = inv.len; before = inv.before } in
    let next : IsSoFar words c.if-at-eq0.counts.items (at + 1) = elim c.if-at-eq0.branch [
      | then-at-eq0+in_ok-push w ↦ rw w.counts-is
          (count_pushed words c.loop-at.counts.items _ at c.loop-at.total w.if-at-eq0.true so_far inv.total_is w.in_ok-push.ensures.items)
      | else-at-eq0 w ↦ rw w.counts-is (count_kept words c.loop-at.counts.items at w.if-at-eq0.false so_far)
    ] in
    record {
      total_is = omega (arith, more, c.from-total.ensures, inv.total_is);
      most = omega (arith, few, c.from-total.ensures, inv.most);
      len = next.len;
      before = next.before;
    }
