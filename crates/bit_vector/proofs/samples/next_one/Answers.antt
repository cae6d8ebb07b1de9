use Rattle.std.proofs.Common.{ℕ, ◌+◌, ◌/◌, ◌%◌, ◌^◌, ◌≤◌, get_or, sym, subst, arith}
use Rattle.std.specs.Prelude.{MatchOption}
use Rattle.std.specs.Int.RustNames.{count_ones}
use Rattle.bit_vector.specs.Bits.{words_number}
use Rattle.bit_vector.specs.Samples.{all_ones, IsOneAt}
use Rattle.bit_vector.proofs.WordLemmas.{AreWords}
use Rattle.bit_vector.proofs.WordOnes.{one_among, ones_below_place}
use Rattle.bit_vector.proofs.SampleLemmas.{one_above, one_within, ones_passed, ones_all}
use Rattle.bit_vector.proofs.samples.next_one.Goals as goal

pub returns-then-first-words : goal.returns-then-first-words
returns-then-first-words c = omega (
  arith,
  ones_all c.args.words.now c.args.from (λ i. omega (arith, c.type_inv.words i)) c.requires.within c.if-first-words.true,
)

pub returns-then-rest-ne0 : goal.returns-then-rest-ne0
returns-then-rest-ne0 c =
    let words = c.args.words.now in
    let from = c.args.from in
    let fits : AreWords words = λ i. omega (arith, c.type_inv.words i) in
    let word = get_or words (from / 64) 0 in
    let above = one_above word (from % 64) c.lowest_in.result c.lowest_in.ensures.place in
    let lt = one_within word (count_ones (word % 2 ^ (from % 64))) (from % 64 + c.lowest_in.result) (fits (from / 64)) above in
    one_among words (from / 64) (from % 64 + c.lowest_in.result) (count_ones (word % 2 ^ (from % 64))) _ _ fits c.if-first-words.false lt above
    (sym (ones_below_place words from fits c.requires.within)) (omega (arith, c.from.ensures))

pub returns : goal.returns
returns c =
    let words = c.args.words.now in
    let passed = ones_passed words c.args.from (λ i. omega (arith, c.type_inv.words i)) c.if-first-words.false c.if-rest-ne0.false in
    subst (λ (i : ℕ). MatchOption c.first_one.result (all_ones words ≤ i) (λ p. IsOneAt (words_number words) i p)) (sym passed) c.first_one.ensures
