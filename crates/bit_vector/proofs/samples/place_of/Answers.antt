use Rattle.std.proofs.Common.{◌*◌, ◌-◌, ◌<◌, length, arith}
use Rattle.std.specs.Int.RustNames.{count_ones}
use Rattle.std.proofs.lemmas.List.Sums.{sum_by-take-le}
use Rattle.bit_vector.specs.Samples.{all_ones, IsInWord}
use Rattle.bit_vector.proofs.WordOnes.{one_among}
use Rattle.bit_vector.proofs.SampleLemmas.{from_sample}
use Rattle.bit_vector.proofs.samples.place_of.Goals as goal
use Rattle.bit_vector.proofs.samples.place_of.Goals.{in-Some, in-None}

pub returns : goal.returns
returns c =
    let words = c.args.words.now in
    let last = length c.args.counts.now - 1 in
    let counted = c.requires.counted in
    let few : c.args.i < all_ones words = omega (
      arith,
      c.if-i-counts.false,
      counted.before last (omega (arith, counted.len)),
      sum_by-take-le count_ones words (16 * last),
    ) in
    let found : IsInWord words c.args.i c.match-word_of_one.word.0 c.match-word_of_one.word.1 = elim c.match-word_of_one.branch [
      | in-Some w ↦ rw w.word-is (from_sample words c.args.samples.now c.args.i _ _ c.requires.sampled few (w.in-Some.ensures.some))
      | in-None w ↦ rw w.word-is w.word_by_counts.ensures
    ] in
    one_among words c.match-word_of_one.word.0 c.place_in.result c.match-word_of_one.word.1 c.args.i _ (λ i. omega (
      arith,
      c.type_inv.words i,
    )) found.within c.place_in.ensures.within c.place_in.ensures.place found.number (omega (arith, c.from.ensures))
