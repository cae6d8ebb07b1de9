use Rattle.std.proofs.Common.{◌≡◌, ℕ, ◌%◌, List, take, drop, ap, sym, ◌∙◌, subst, arith, rules}
use Rattle.std.proofs.lemmas.Grind.{common_steps}
use Rattle.std.specs.Slots.{slots_items}
use mathlib.Core.Option.{some}
use lib.ListN.{get_elem?}
use Rattle.turn_search.specs.declared.layout.TheConstants.{STOP}
use Rattle.turn_search.specs.Words.{ranks_of, turn_word, turn_in, pilots_from}
use Rattle.turn_search.specs.Rule.{Kept}
use Rattle.turn_search.specs.Closings.{stuck_in}
use Rattle.turn_search.proofs.LastState.{read_word, end_of}
use Rattle.turn_search.proofs.table.TurnTable.close.Goals as goal

pub returns : goal.returns
returns c =
    let table = c.self.inside in
    let last = c.close_with-closed.ensures.values.2 in
    let words : List ℕ = slots_items c.close_with-closed.result.words in
    let key = table.board.shared.key in
    let kept : Kept key words last.0.views = subst (λ ws. Kept key ws last.0.views) last.2 last.1.0 in
    let same : key ≡ c.args.self.plan = c.self.invariant.same_key ∙ ap (λ t. t.plan) c.self.view_is in
    let there : get_elem? last.0.views c.pass.inside.seat.id ≡ some c.args.pass.view = last.1.1 ∙ ap (λ p. some p.view) c.pass.view_is in
    let word : turn_word words ≡ c.word-last.result = read_word words 0 c.word-last.result c.word-last.ensures in
    let turn : turn_in words ≡ c.word-last.result % STOP = ap (λ w. w % STOP) word in
    let ranks : c.ranks.result ≡ ranks_of c.args.self.plan = c.ranks.ensures.value ∙ ap (λ t. ranks_of t.plan) c.self.view_is in
    let from : c.pilots_from.result ≡ pilots_from c.args.self.plan = c.pilots_from.ensures.value ∙ ap (λ t. pilots_from t.plan) c.self.view_is in
    let copied : c.truncate.new.self.items ≡ take (c.word-last.result % STOP) (drop c.pilots_from.result words) =
    (first_of (search rules, grind (arith, common_steps))) in
    end_of c.args.self key words last.0.views c.pass.inside.seat.id c.args.pass.view _ same kept there
    (copied ∙ ap (λ n. take n (drop c.pilots_from.result words)) (sym turn) ∙ ap (λ f. take (turn_in words) (drop f words)) from)
    (c.stuck_in.ensures ∙ ap stuck_in (sym word))
    (omega (arith, turn, ranks, kept.turn_within, ap ranks_of same))
