use Rattle.std.proofs.Common.{◌≡◌, ℕ, ◌+◌, ◌*◌, ◌%◌, ◌==◌, ◌<◌, List, length, refl, sym, ap, ◌∙◌, arith}
use Rattle.std.specs.Prelude.{slice_index}
use Rattle.std.specs.Int.{bit_at}
use Rattle.std.specs.FinSet.{contains}
use Rattle.std.proofs.lemmas.List.{get_or_read}
use Rattle.pthash.specs.PositionLaws.{contains-set_of_below}
use Rattle.word_bits.specs.Bits.{word_of, is_set}
use Rattle.pilot_search.specs.Table.{Table}
use Rattle.pilot_search.proofs.occupancy.Occupancy.word.Goals as goal

pub returns : goal.returns
returns c =
    λ k lower within.
    let words : List ℕ = c.self.inside.words.items in
    let q : ℕ = 64 * c.args.i + k in
    let size : c.self.inside.size ≡ c.args.self.now.size = ap (λ (t : Table). t.size) c.self.view_is in
    let in_words : c.args.i < length words = omega (arith, size, c.self.invariant.room) in
    let whole : word_of 0 q ≡ word_of 0 q = refl in
    let place : c.args.i ≡ word_of 0 q = omega (arith, whole) in
    let bit : k ≡ q % 64 = omega arith in
    ap (λ w. bit_at w k == 1) (get_or_read words c.args.i c.index.result.now in_words c.index.ensures 0)
    ∙ ap (λ x. bit_at (slice_index words x) k == 1) place
    ∙ ap (λ b. bit_at (slice_index words (word_of 0 q)) b == 1) bit
    ∙ sym (contains-set_of_below c.self.inside.size (is_set words 0) q (omega (arith, size)))
    ∙ ap (λ (t : Table). contains t.taken q) c.self.view_is
