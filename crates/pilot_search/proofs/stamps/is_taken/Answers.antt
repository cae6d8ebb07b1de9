use Rattle.std.proofs.Common.{sym, ap, ◌∙◌}
use Rattle.std.specs.FinSet.{contains, contains-empty, empty_of_len}
use Rattle.std.specs.Ordering.{nat_cmp}
use Rattle.pilot_search.proofs.stamps.is_taken.Goals as goal

pub returns-then-taken-eq0 : goal.returns-then-taken-eq0
returns-then-taken-eq0 c =
    sym (ap (λ s. contains s c.args.position) (empty_of_len c.args.occupied.now.taken (sym c.requires.count ∙ c.if-taken-eq0.true))
    ∙ contains-empty nat_cmp c.args.position)
