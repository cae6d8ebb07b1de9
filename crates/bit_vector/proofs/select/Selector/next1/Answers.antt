use Rattle.std.proofs.Common.{◌≡◌, ◌≤◌, ◌%◌, ◌^◌, ℕ, List, Bool, length, take, sym, ap, subst, ◌∙◌, arith}
use Rattle.std.specs.Prelude.{MatchOption}
use Rattle.std.specs.Int.RustNames.{count_ones}
use Rattle.std.specs.List.{slice_get}
use Rattle.bit_vector.specs.Bits.{words_number, packed, ones, places}
use Rattle.bit_vector.specs.Samples.{all_ones, IsOneAt}
use Rattle.bit_vector.proofs.SampleLemmas.{length-packed, words_number-packed, ones-take, select_is}
use Rattle.bit_vector.proofs.select.Selector.next1.Goals as goal

pub next_one-requires-clause-within : goal.next_one-requires-clause-within
next_one-requires-clause-within c = omega (arith, c.requires, ap length c.self.view_is, ap length c.words.ensures, length-packed c.self.inside.bits)

pub next_one-requires-clause-most : goal.next_one-requires-clause-most
next_one-requires-clause-most c = omega (arith, ap length c.words.ensures, length-packed c.self.inside.bits, c.self.invariant.2)

pub returns : goal.returns
returns c =
    let bits = c.self.inside.bits in
    let at = c.args.from in
    let number : count_ones (words_number (packed bits) % 2 ^ at) ≡ ones (take at bits) =
    ap (λ (n : ℕ). count_ones (n % 2 ^ at)) (words_number-packed bits) ∙ sym (ones-take bits at (omega (arith, c.requires, ap length c.self.view_is))) in
    let given = subst (λ (ws : List ℕ). MatchOption c.next_one.result (all_ones ws ≤ count_ones (words_number ws % 2 ^ at))
    (λ p. IsOneAt (words_number ws) (count_ones (words_number ws % 2 ^ at)) p)) c.words.ensures c.next_one.ensures in
    let by_ones = subst (λ (i : ℕ). MatchOption c.next_one.result (all_ones (packed bits) ≤ i)
    (λ p. IsOneAt (words_number (packed bits)) i p)) number given in
    select_is bits (ones (take at bits)) c.next_one.result by_ones ∙ ap (λ (bs : List Bool). slice_get (places bs) (ones (take at bs))) c.self.view_is
