use Rattle.std.proofs.Common.{ap, ◌∙◌, replicate}
use Rattle.turn_search.proofs.ClaimKept.{starts}
use Rattle.turn_search.proofs.table.lay.Goals as goal

pub of_words-requires : goal.of_words-requires
of_words-requires c =
    starts c.args.plan.now c.deref.result.now
    (c.deref.ensures.value ∙ c.in_ok-words.ensures.items_if_clones_equal (λ y same. same) ∙ ap (λ n. replicate n 0) c.word_count.ensures.value)
