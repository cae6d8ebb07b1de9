use Rattle.std.proofs.Common.{ℕ, List, ◌≡◌, ◌<◌, ◌++◌, ◌∷◌, [], length, take, get_or, sym, ap, ◌∙◌, arith}
use Rattle.std.proofs.lemmas.List.{take_more, take_more_set}
use Rattle.pilot_search.specs.Table.{positions_under}
use Rattle.pilot_search.proofs.Fitting.{get_or-positions_under, length-positions_under}
use Rattle.pilot_search.proofs.fit.write_positions.Goals as goal

pub loop-i-preserved : goal.loop-i-preserved
loop-i-preserved c =
    let members : List ℕ = c.args.members.now in
    let places : List ℕ = positions_under c.args.hash c.args.size.now members in
    let i : ℕ = c.loop-i.i in
    let in_range : i < length places = omega (arith, length-positions_under c.args.hash c.args.size.now members) in
    let here : get_or places i 0 ≡ c.remainder.result = get_or-positions_under c.args.hash c.args.size.now members i (omega arith)
    ∙ sym c.remainder.ensures.value in
    take_more_set c.loop-i.positions i c.remainder.result (omega arith)
    ∙ ap (λ ps. ps ++ c.remainder.result ∷ []) c.loop-i.invariant
    ∙ ap (λ q. take i places ++ q ∷ []) (sym here)
    ∙ sym (take_more places i 0 in_range)
