use Rattle.std.proofs.Common.{◌∙◌}
use Rattle.callers.proofs.Among.{rising_spelled}
use Rattle.callers.proofs.rising_round_trips.rising_read_again.Goals as goal

pub returns-clause-value : goal.returns-clause-value
returns-clause-value c =
    let text = c.deref.ensures.value ∙ c.in_ok-bytes.ensures in
    c.value_at.ensures.value _ _ (rising_spelled c.in_ok-list.list _ _ _ _ _ c.len.ensures.rising c.in_ok-list.ensures text c.len.ensures.value)

pub returns-clause-err : goal.returns-clause-err
returns-clause-err c =
    let text = c.deref.ensures.value ∙ c.in_ok-bytes.ensures in
    c.value_at.ensures.err _ _ (rising_spelled c.in_ok-list.list _ _ _ _ _ c.len.ensures.rising c.in_ok-list.ensures text c.len.ensures.value)
