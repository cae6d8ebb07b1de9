use Rattle.std.proofs.Common.{◌≡◌, ℕ, ◌+◌, ◌*◌, ◌^◌, Bool, subst, arith}
use Rattle.pilot_search.specs.Flags.{FailWhereSet, is_free_under}
use Rattle.pilot_search.proofs.FlagLemmas.{joined_flags}
use Rattle.pilot_search.proofs.groups.flags_of_four.Goals as goal

pub returns-clause-fail : goal.returns-clause-fail
returns-clause-fail c =
    let test : ℕ → Bool = is_free_under c.args.hashes.now c.args.member c.args.occupied.now in
    let low : ℕ = c.flags_of_two-low.result in
    let high : ℕ = c.flags_of_two-high.result in
    let same : high * 2 ^ 2 + low ≡ low + 4 * high = omega arith in
    subst (FailWhereSet test c.args.from) same
    (joined_flags test c.args.from 2 low high (omega (arith, c.flags_of_two-low.ensures.bound))
    c.flags_of_two-low.ensures.fail c.flags_of_two-high.ensures.fail)
