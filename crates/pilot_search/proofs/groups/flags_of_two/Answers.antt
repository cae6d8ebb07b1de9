use Rattle.std.proofs.Common.{◌≡◌, ℕ, ◌+◌, ◌*◌, ◌^◌, Bool, subst, arith}
use Rattle.pilot_search.specs.Flags.{FailWhereSet, is_free_under}
use Rattle.pilot_search.proofs.FlagLemmas.{joined_flags}
use Rattle.pilot_search.proofs.groups.flags_of_two.Goals as goal

pub returns-clause-fail : goal.returns-clause-fail
returns-clause-fail c =
    let test : ℕ → Bool = is_free_under c.args.hashes.now c.args.member c.args.occupied.now in
    let low : ℕ = c.flag-low.result in
    let high : ℕ = c.flag-high.result in
    let same : high * 2 ^ 1 + low ≡ low + 2 * high = omega arith in
    subst (FailWhereSet test c.args.from) same
    (joined_flags test c.args.from 1 low high (omega (arith, c.flag-low.ensures.bound)) c.flag-low.ensures.fail c.flag-high.ensures.fail)
