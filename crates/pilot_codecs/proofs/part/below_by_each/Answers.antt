use Rattle.std.proofs.Common.{◌<◌, length, sym, ◌∙◌, arith}
use Rattle.elias_fano.proofs.CallerLemmas.{slice_get-some, found_is, below_len-le, below_len-most}
use Rattle.pilot_codecs.specs.Values.{values_of}
use Rattle.pilot_codecs.proofs.BelowLemmas.{below_more}
use Rattle.pilot_codecs.proofs.part.below_by_each.Goals as goal

pub unwrap-value-requires : goal.unwrap-value-requires
unwrap-value-requires c =
    rw c.part_get.ensures (slice_get-some (values_of c.args.part.now) c.loop-i.i (omega (arith, c.loop-i-test.true, c.part_len-len.ensures)))

pub returns-then-value-bound : goal.returns-then-value-bound
returns-then-value-bound c =
    let vs = values_of c.args.part.now in
    let i = c.loop-i.i in
    let lt : i < length vs = omega (arith, c.loop-i-test.true, c.part_len-len.ensures) in
    let value = found_is vs i c.unwrap-value.result lt (sym c.part_get.ensures ∙ c.unwrap-value.ensures) in
    omega (arith, c.loop-i.invariant, below_len-le c.args.bound vs i (omega (arith, value, c.if-value-bound.true)))

pub loop-i-preserved : goal.loop-i-preserved
loop-i-preserved c =
    let vs = values_of c.args.part.now in
    let i = c.loop-i.i in
    let lt : i < length vs = omega (arith, c.loop-i-test.true, c.part_len-len.ensures) in
    let value = found_is vs i c.unwrap-value.result lt (sym c.part_get.ensures ∙ c.unwrap-value.ensures) in
    below_more c.args.bound vs i c.loop-i.invariant lt (omega (arith, value, c.if-value-bound.false))

pub returns : goal.returns
returns c = omega (arith, c.loop-i.invariant, c.loop-i-test.false, c.part_len-len.ensures, below_len-most c.args.bound (values_of c.args.part.now))
