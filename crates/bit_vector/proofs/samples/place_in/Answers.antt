use Rattle.std.proofs.Common.{◌≡◌, ℕ, ◌+◌, ◌/◌, ◌%◌, ◌^◌, ap, ◌∙◌, arith}
use Rattle.std.specs.Int.RustNames.{count_ones}
use Rattle.std.proofs.lemmas.Nat.{shr-shr}
use Rattle.bit_vector.proofs.WordOnes.{ones_cut}
use Rattle.bit_vector.proofs.SampleLemmas.{quartered}
use Rattle.bit_vector.proofs.samples.place_in.Goals as goal

pub loop-span-preserved : goal.loop-span-preserved
loop-span-preserved c =
    let inv = c.loop-span.invariant in
    let word = c.args.word in
    let place = c.loop-span.place in
    let quarter = quartered c.loop-span.span c.loop-span-test.true inv.a_power in
    let p = c.passed-skip.ensures in
    let skip = c.passed-skip.result.0 in
    let turned : place + skip ≡ skip + place = omega arith in
    let cut_word = ap (λ (j : ℕ). count_ones (word % 2 ^ j)) turned ∙ ones_cut word skip place in
    let same = ap (λ (r : ℕ). count_ones (r % 2 ^ skip)) inv.rest_is in
    record {
      within = omega (arith, inv.within, quarter.0, p.within);
      a_power = quarter.1;
      rest_is = ap (λ (r : ℕ). r / 2 ^ skip) inv.rest_is ∙ shr-shr word place skip;
      number = omega (arith, inv.number, cut_word, same, p.ones_are, p.enough);
      here = omega (arith, p.here, ones_cut c.loop-span.rest (c.loop-span.span / 4) skip, p.ones_are, p.enough);
    }

pub passed-skip-requires-clause-here : goal.passed-skip-requires-clause-here
passed-skip-requires-clause-here c =
    let inv = c.loop-span.invariant in
    rw (quartered c.loop-span.span c.loop-span-test.true inv.a_power).0 inv.here
