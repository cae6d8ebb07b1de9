use Rattle.std.proofs.Common.{ℕ, List, Err, sym, ap, ◌∙◌, arith}
use Rattle.build_outcome.specs.Outcome.{built, repeated, exhausted}
use Rattle.command_words.specs.Options.{options_data}
use Rattle.pth_top.specs.Lists.{index_by}
use Rattle.pth_top.proofs.Listed.{index_for-none, index_for-some}
use Rattle.pth_top.proofs.lists.build_all.Goals as goal

pub returns-then-len-eq0-clause-done : goal.returns-then-len-eq0-clause-done
returns-then-len-eq0-clause-done g c =
    index_for-none (options_data c.args.options.now) c.args.keys.now (omega arith) ∙ ap Err (sym c.in_ok-no_keys_answer.ensures)

pub returns-in-Ok-clause-done : goal.returns-in-Ok-clause-done
returns-in-Ok-clause-done g c =
    index_for-some (options_data c.args.options.now) c.args.keys.now (built c.in-Ok.built) (λ none. c.if-len-eq0.false (c.len.ensures ∙ none))
    c.in-Ok.ensures.built

pub returns-in_ok-repeated_answer-in-Err-RepeatedKey-clause-done : goal.returns-in_ok-repeated_answer-in-Err-RepeatedKey-clause-done
returns-in_ok-repeated_answer-in-Err-RepeatedKey-clause-done g c =
    let i = c.in-Err-RepeatedKey.first in
    let j = c.in-Err-RepeatedKey.second in
    index_for-some (options_data c.args.options.now) c.args.keys.now (repeated i j) (λ none. c.if-len-eq0.false (c.len.ensures ∙ none))
    (c.in-Err-RepeatedKey.ensures.repeated i j (ap Err c.in-Err-RepeatedKey.field-0-is))
    ∙ sym c.in_ok-repeated_answer-in-Err-RepeatedKey.ensures

pub returns-in_ok-exhausted_answer-in-Err-SeedsExhausted-clause-done : goal.returns-in_ok-exhausted_answer-in-Err-SeedsExhausted-clause-done
returns-in_ok-exhausted_answer-in-Err-SeedsExhausted-clause-done g c =
    let causes = c.in-Err-SeedsExhausted.causes in
    index_for-some (options_data c.args.options.now) c.args.keys.now (exhausted causes.list.items)
    (λ none. c.if-len-eq0.false (c.len.ensures ∙ none)) (c.in-Err-SeedsExhausted.ensures.exhausted causes (ap Err c.in-Err-SeedsExhausted.field-0-is))
    ∙ sym (c.in_ok-exhausted_answer-in-Err-SeedsExhausted.ensures
    ∙ ap (λ (seeds : List ℕ). index_by seeds (exhausted causes.list.items)) c.deref.ensures.value)
