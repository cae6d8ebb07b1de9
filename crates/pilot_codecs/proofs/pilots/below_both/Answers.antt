use Rattle.std.proofs.Common.{sym, ◌∙◌, arith}
use Rattle.std.proofs.lemmas.List.{length-append}
use Rattle.elias_fano.proofs.CallerLemmas.{below_len-most}
use Rattle.pilot_codecs.specs.Values.{values_of}
use Rattle.pilot_codecs.proofs.BelowLemmas.{below-front, below-back}
use Rattle.pilot_codecs.proofs.pilots.below_both.Goals as goal

pub returns-then-below-first : goal.returns-then-below-first
returns-then-below-first c =
    c.part_below-below.ensures ∙ sym (below-front c.args.bound (values_of c.args.front.now) (values_of c.args.back.now)
    (omega (arith, c.if-below-first.true, c.part_below-below.ensures, c.part_len-first.ensures)))

pub overflow_add-result : goal.overflow_add-result
overflow_add-result c =
    let back = values_of c.args.back.now in
    omega (
      arith,
      length-append (values_of c.args.front.now) back,
      below_len-most c.args.bound back,
      c.requires,
      c.part_len-first.ensures,
      c.part_below.ensures,
    )

pub returns : goal.returns
returns c =
    let whole = below-back c.args.bound (values_of c.args.front.now) (values_of c.args.back.now)
    (omega (arith, c.if-below-first.false, c.part_below-below.ensures, c.part_len-first.ensures)) in
    omega (arith, whole, c.part_len-first.ensures, c.part_below.ensures)
