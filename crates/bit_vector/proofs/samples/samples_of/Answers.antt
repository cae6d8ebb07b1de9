use Rattle.std.proofs.Common.{length, get_or, refl, ap, ◌∙◌, arith}
use Rattle.std.proofs.lemmas.Nat.{ones-le}
use Rattle.std.proofs.lemmas.List.{length_push}
use Rattle.bit_vector.proofs.WordOnes.{all_ones-more}
use Rattle.bit_vector.proofs.SampleLemmas.{IsNoted, one_noted, none_noted}
use Rattle.bit_vector.proofs.samples.samples_of.Goals as goal
use Rattle.bit_vector.proofs.samples.samples_of.Goals.{then-next-total+in_ok-push, else-next-total}

pub loop-at-preserved : goal.loop-at-preserved
loop-at-preserved c =
    let words = c.args.words.now in
    let at = c.loop-at.at in
    let old = c.loop-at.samples.items in
    let inv = c.loop-at.invariant in
    let more = all_ones-more words at c.loop-at-test.true in
    let few = ones-le 64 (get_or words at 0) (omega (arith, c.type_inv.words at)) in
    let here = c.from-here.ensures in
    let noted : IsNoted words old at = record { within = inv.within; number = inv.number } in
    elim c.if-next-total.branch [
      | then-next-total+in_ok-push w ↦
          let items = w.in_ok-push.ensures.items in
          let all = one_noted words old w.push.new.self.items at c.loop-at.total c.loop-at.next _ noted inv.total_is inv.next_is inv.due
          (omega (arith, w.if-next-total.true, here, few)) refl items in
          let longer = ap length items ∙ length_push old _ in
          rw (w.samples-is, w.next-is) (record {
            total_is = omega (arith, more, here, inv.total_is);
            most = omega (arith, few, here, inv.most);
            next_is = omega (arith, inv.next_is, longer);
            due = omega (arith, inv.due, few, here);
            soon = omega (arith, w.if-next-total.true);
            within = all.within;
            number = all.number;
          })
      | else-next-total w ↦
          let all = none_noted words old at noted in
          rw (w.samples-is, w.next-is) (record {
            total_is = omega (arith, more, here, inv.total_is);
            most = omega (arith, few, here, inv.most);
            next_is = inv.next_is;
            due = w.if-next-total.false;
            soon = omega (arith, inv.soon);
            within = all.within;
            number = all.number;
          })
    ]
