use Rattle.std.proofs.Common.{◌≤◌, ℕ, List, Bool, length, ap, subst, ◌∙◌, arith}
use Rattle.std.specs.Prelude.{MatchOption}
use Rattle.std.specs.List.{slice_get}
use Rattle.bit_vector.specs.Bits.{words_number, places}
use Rattle.bit_vector.specs.Samples.{all_ones, IsOneAt}
use Rattle.bit_vector.proofs.SampleLemmas.{length-packed, select_is}
use Rattle.bit_vector.proofs.select.Selector.select1.Goals as goal

pub place_of-requires-clause-most : goal.place_of-requires-clause-most
place_of-requires-clause-most c = omega (arith, ap length c.words.ensures, length-packed c.self.inside.bits, c.self.invariant.2)

pub returns : goal.returns
returns c =
    let given = subst (λ (ws : List ℕ). MatchOption c.place_of.result (all_ones ws ≤ c.args.i)
    (λ p. IsOneAt (words_number ws) c.args.i p)) c.words.ensures
    c.place_of.ensures in
    select_is c.self.inside.bits c.args.i c.place_of.result given ∙ ap (λ (bs : List Bool). slice_get (places bs) c.args.i) c.self.view_is
