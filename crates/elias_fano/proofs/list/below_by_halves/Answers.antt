use Rattle.std.proofs.Common.{◌+◌, ◌-◌, ◌/◌, ◌<◌, length, sym, ◌∙◌, arith}
use Rattle.elias_fano.proofs.ValueLemmas.{slice_get-some, found_is, below_len-le, below_len-gt, below_len-most}
use Rattle.elias_fano.proofs.list.below_by_halves.Goals as goal

pub loop-first-init : goal.loop-first-init
loop-first-init c =
    record {
      low = omega arith;
      high = omega (arith, below_len-most c.args.bound c.args.list.now, c.requires.all);
      within = omega (arith, c.requires.all);
    }

pub unwrap-value-requires : goal.unwrap-value-requires
unwrap-value-requires c =
    let lt : c.loop-first.first + (c.loop-first.end - c.loop-first.first) / 2 < length c.args.list.now =
    omega (arith, c.loop-first.invariant.within, c.loop-first-test.true) in
    rw c.get.ensures (slice_get-some c.args.list.now (c.loop-first.first + (c.loop-first.end - c.loop-first.first) / 2) lt)

pub loop-first-preserved-then-value-bound : goal.loop-first-preserved-then-value-bound
loop-first-preserved-then-value-bound c =
    let vs = c.args.list.now in
    let middle = c.loop-first.first + (c.loop-first.end - c.loop-first.first) / 2 in
    let lt : middle < length vs = omega (arith, c.loop-first.invariant.within, c.loop-first-test.true) in
    let value = found_is vs middle c.unwrap-value.result lt (sym c.get.ensures ∙ c.unwrap-value.ensures) in
    record {
      low = omega (arith, below_len-gt c.args.bound vs middle c.requires.rising lt (omega (arith, value, c.if-value-bound.true)));
      high = c.loop-first.invariant.high;
      within = c.loop-first.invariant.within;
    }

pub loop-first-preserved : goal.loop-first-preserved
loop-first-preserved c =
    let vs = c.args.list.now in
    let middle = c.loop-first.first + (c.loop-first.end - c.loop-first.first) / 2 in
    let lt : middle < length vs = omega (arith, c.loop-first.invariant.within, c.loop-first-test.true) in
    let value = found_is vs middle c.unwrap-value.result lt (sym c.get.ensures ∙ c.unwrap-value.ensures) in
    record {
      low = c.loop-first.invariant.low;
      high = below_len-le c.args.bound vs middle (omega (arith, value, c.if-value-bound.false));
      within = omega (arith, lt);
    }
