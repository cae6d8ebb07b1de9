use Rattle.std.proofs.Common.{ℕ, ◌+◌, ◌++◌, ◌∷◌, [], List, take, drop, ap, sym, ◌∙◌, arith}
use Rattle.std.specs.Slots.{slots_items}
use Rattle.std.proofs.lemmas.List.{length-set, length-drop, take_more, take_more_set, get_or-drop}
use Rattle.turn_search.proofs.LastState.{read_word}
use Rattle.turn_search.proofs.closing.copy_pilots.Goals as goal

pub loop-rank-preserved : goal.loop-rank-preserved
loop-rank-preserved c =
    let words : List ℕ = slots_items c.args.closed.now.words in
    let from : ℕ = c.args.from in
    let rank : ℕ = c.loop-rank.rank in
    let pilots : List ℕ = c.loop-rank.pilots in
    let word : ℕ = c.word.result in (
      length-set pilots rank word ∙ c.loop-rank.invariant.0,
      take_more_set pilots rank word (omega (arith, c.loop-rank.invariant.0))
          ∙ ap (λ l. l ++ word ∷ []) c.loop-rank.invariant.1
          ∙ ap (λ w. take rank (drop from words) ++ w ∷ []) (sym (get_or-drop from words rank 0 ∙ read_word words (from + rank) word c.word.ensures))
          ∙ sym (take_more (drop from words) rank 0 (omega (arith, length-drop from words))),
    )
