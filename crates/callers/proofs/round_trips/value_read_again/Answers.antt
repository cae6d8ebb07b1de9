use Rattle.std.proofs.Common.{◌∙◌}
use Rattle.callers.proofs.Among.{written_spelled}
use Rattle.callers.proofs.round_trips.value_read_again.Goals as goal

pub returns-clause-value : goal.returns-clause-value
returns-clause-value c =
    let made = c.in_ok-list.ensures in
    let text = c.deref.ensures.value ∙ c.in_ok-bytes.ensures in
    c.value_at.ensures.value _ _ (written_spelled c.in_ok-list.list _ _ _ _ _ _ c.len.ensures.fits made.enc made.values text c.len.ensures.value)

pub returns-clause-err : goal.returns-clause-err
returns-clause-err c =
    let made = c.in_ok-list.ensures in
    let text = c.deref.ensures.value ∙ c.in_ok-bytes.ensures in
    c.value_at.ensures.err _ _ (written_spelled c.in_ok-list.list _ _ _ _ _ _ c.len.ensures.fits made.enc made.values text c.len.ensures.value)
