use Rattle.std.proofs.Common.{ℕ, Bool, arith}
use Rattle.std.specs.FinSet.{contains}
use Rattle.pthash.specs.Search.{pilot_fits}
use Rattle.pilot_search.proofs.FlagLemmas.{either_flags, member_flags}
use Rattle.pilot_search.proofs.groups.group_flags.Goals as goal

pub returns-then-members-eq1-clause-fail : goal.returns-then-members-eq1-clause-fail
returns-then-members-eq1-clause-fail c =
    let flags = c.flags_of_eight-first in
    member_flags c.args.occupied.now c.args.hashes.now c.args.members.now c.args.seed c.args.size.now c.args.from flags.result 0
    c.requires.size c.requires.hashes c.requires.group flags.ensures.bound c.requires.some flags.ensures.fail

pub returns-else-members-eq1-clause-fail : goal.returns-else-members-eq1-clause-fail
returns-else-members-eq1-clause-fail c =
    let table = c.args.occupied.now in
    let test : ℕ → Bool = pilot_fits c.args.seed c.args.size.now (contains table.taken) c.args.members.now in
    let one = c.flags_of_eight-first in
    let two = c.flags_of_eight in
    either_flags test c.args.from one.result two.result
    (member_flags table c.args.hashes.now c.args.members.now c.args.seed c.args.size.now c.args.from one.result 0
    c.requires.size c.requires.hashes c.requires.group one.ensures.bound c.requires.some one.ensures.fail)
    (member_flags table c.args.hashes.now c.args.members.now c.args.seed c.args.size.now c.args.from two.result 1
    c.requires.size c.requires.hashes c.requires.group two.ensures.bound (omega (arith, c.requires.some, c.if-members-eq1.false)) two.ensures.fail)
