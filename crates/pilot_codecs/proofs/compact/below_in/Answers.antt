use Rattle.std.proofs.Common.{◌*◌, sym, ◌∙◌, arith}
use Rattle.bit_vector.specs.Bits.{bits_of, words_number}
use Rattle.pilot_codecs.specs.Parts.{values_in}
use Rattle.pilot_codecs.proofs.CompactLemmas.{length-values_in}
use Rattle.pilot_codecs.proofs.CompactLaws.{greatest-fields}
use Rattle.pilot_codecs.proofs.BelowLemmas.{below_greatest}
use Rattle.pilot_codecs.proofs.WalkLemmas.{width_some, width_most}
use Rattle.pilot_codecs.proofs.compact.below_in.Goals as goal

pub returns-then-is_narrow : goal.returns-then-is_narrow
returns-then-is_narrow c =
    let count = c.args.count in
    let w = c.args.width in
    let ws = c.args.words.now in
    let vs = values_in count w ws in
    let most = greatest-fields count w (bits_of (count * w) (words_number ws)) in
    sym (below_greatest c.args.bound vs (omega (arith, most, c.is_narrow.ensures c.if-is_narrow.true)) ∙ length-values_in count w ws)

pub count_below-requires-clause-some : goal.count_below-requires-clause-some
count_below-requires-clause-some c = width_some c.args.count c.args.width c.args.words.now c.requires

pub count_below-requires-clause-wide : goal.count_below-requires-clause-wide
count_below-requires-clause-wide c = width_most c.args.count c.args.width c.args.words.now c.requires
