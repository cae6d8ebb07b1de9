use Rattle.std.proofs.Common.{ℕ, Bool, sym, subst, arith}
use Rattle.std.specs.Prelude.{bit_or}
use Rattle.pthash.specs.SearchLaws.{fits_at}
use Rattle.pilot_search.specs.Flags.{FailWhereSet}
use Rattle.pilot_search.proofs.FlagLemmas.{either_flags}
use Rattle.turn_search.specs.Looks.{found_taken}
use Rattle.turn_search.proofs.Flagged.{open_on, member_rejects}
use Rattle.turn_search.proofs.table.TurnTable.group_flags.Goals as goal

pub returns-then-members-eq1-clause-fail : goal.returns-then-members-eq1-clause-fail
returns-then-members-eq1-clause-fail c =
    let one = c.member_flags-first in
    let view = one.new.pass.view in
    subst (λ p. FailWhereSet (fits_at p (found_taken view.looks) c.args.rank) c.args.from one.result) (sym one.ensures.pass.same_plan)
    (member_rejects c.args.self.now.plan view.looks c.args.rank c.args.hashes.now c.args.members.now c.args.size.now c.args.from one.result 0
    c.requires.members c.requires.size c.requires.hashes c.requires.kept one.ensures.bound c.requires.some one.ensures.fail)

pub returns-else-members-eq1-clause-fail : goal.returns-else-members-eq1-clause-fail
returns-else-members-eq1-clause-fail c =
    let one = c.member_flags-first in
    let two = c.member_flags in
    let plan = c.args.self.now.plan in
    let view = two.new.pass.view in
    let hashes = c.args.hashes.now in
    let members = c.args.members.now in
    let test : ℕ → Bool = fits_at plan (found_taken view.looks) c.args.rank in
    subst (λ p. FailWhereSet (fits_at p (found_taken view.looks) c.args.rank) c.args.from (bit_or one.result two.result)) (sym two.ensures.pass.same_plan)
    (either_flags test c.args.from one.result two.result
    (member_rejects plan view.looks c.args.rank hashes members c.args.size.now c.args.from one.result 0
    c.requires.members c.requires.size c.requires.hashes c.requires.kept one.ensures.bound c.requires.some
    (open_on one.new.pass.view view hashes _ c.args.size.now c.args.from one.result two.ensures.looks one.ensures.fail))
    (member_rejects plan view.looks c.args.rank hashes members c.args.size.now c.args.from two.result 1
    c.requires.members c.requires.size c.requires.hashes c.requires.kept two.ensures.bound (omega (arith, c.requires.some, c.if-members-eq1.false))
    two.ensures.fail))
