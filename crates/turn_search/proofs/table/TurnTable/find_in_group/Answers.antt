use Rattle.std.proofs.Common.{◌+◌, ◌/◌, ◌^◌, ◌<◌, ◌∙◌, ℕ, Bool, sym, subst, arith, refl}
use Rattle.std.specs.Int.{w64}
use Rattle.std.proofs.lemmas.Nat.{shr_le}
use Rattle.std.proofs.lemmas.Nat.Bits.{bit_at-trailing_ones}
use Rattle.pthash.specs.Least.{FailsBelow}
use Rattle.pthash.specs.SearchLaws.{fits_at}
use Rattle.pilot_search.specs.Flags.{FailWhereSet}
use Rattle.pilot_search.proofs.FlagLemmas.{fails_skipped, flags_past}
use Rattle.turn_search.specs.Looks.{found_taken}
use Rattle.turn_search.proofs.MoreLooks.{looked_none, looked_on}
use Rattle.turn_search.proofs.Looked.{rejects_on, rejects_next, candidate_on}
use Rattle.turn_search.proofs.Flagged.{rejected_on}
use Rattle.turn_search.proofs.table.TurnTable.find_in_group.Goals as goal

pub returns-then-pilot-end-clause-all_rejected : goal.returns-then-pilot-end-clause-all_rejected
returns-then-pilot-end-clause-all_rejected c =
    let view = c.loop-next.pass.view in
    let test : ℕ → Bool = fits_at view.plan (found_taken view.looks) c.args.rank in
    let ones = (bit_at-trailing_ones w64 c.loop-next.flags (omega (arith, c.loop-next.invariant.bound))).2 in
    let skipped : FailsBelow test (c.loop-next.next + c.from.result) = fails_skipped test c.loop-next.next c.loop-next.flags c.from.result
    c.loop-next.invariant.lower c.loop-next.invariant.fail (λ i within. ones i (omega (arith, within, c.from.ensures, c.trailing_ones-skipped.ensures))) in
    record { fails = λ j (below : j < c.args.from + 8). skipped.fails j (omega (arith, below, c.if-pilot-end.true)) }

pub returns-then-try_pilot-clause-lower : goal.returns-then-try_pilot-clause-lower
returns-then-try_pilot-clause-lower c =
    let view = c.loop-next.pass.view in
    let test : ℕ → Bool = fits_at view.plan (found_taken view.looks) c.args.rank in
    let pilot : ℕ = c.loop-next.next + c.from.result in
    let ones = (bit_at-trailing_ones w64 c.loop-next.flags (omega (arith, c.loop-next.invariant.bound))).2 in
    let skipped : FailsBelow test pilot = fails_skipped test c.loop-next.next c.loop-next.flags c.from.result
    c.loop-next.invariant.lower c.loop-next.invariant.fail (λ i within. ones i (omega (arith, within, c.from.ensures, c.trailing_ones-skipped.ensures))) in
    rejects_on view c.try_pilot.new.pass.view c.args.rank pilot c.try_pilot.ensures.looks skipped

pub returns-then-try_pilot-clause-found : goal.returns-then-try_pilot-clause-found
returns-then-try_pilot-clause-found c =
    let first = c.args.pass.now.view in
    let flagged = c.group_flags-flags.new.pass.view in
    let before = c.loop-next.pass.view in
    candidate_on c.args.self.now.plan first before c.try_pilot.new.pass.view c.args.rank (c.loop-next.next + c.from.result)
    (looked_on first flagged before c.group_flags-flags.ensures.looks c.loop-next.invariant.looks) c.try_pilot.ensures.looks
    (c.if-try_pilot.ensures.found refl)

pub loop-next-init : goal.loop-next-init
loop-next-init c =
    let now = c.group_flags-flags.ensures in
    let view = c.group_flags-flags.new.pass.view in
    record {
      bound = now.bound;
      pass = now.pass;
      looks = looked_none view;
      room = refl;
      lower = rejects_on c.args.pass.now.view view c.args.rank c.args.from now.looks c.requires.lower;
      fail = now.fail;
    }

pub loop-next-preserved : goal.loop-next-preserved
loop-next-preserved c =
    let before = c.loop-next.pass.view in
    let after = c.try_pilot.new.pass.view in
    let now = c.try_pilot.ensures in
    let rank = c.args.rank in
    let test : ℕ → Bool = fits_at before.plan (found_taken before.looks) rank in
    let flags : ℕ = c.loop-next.flags in
    let next : ℕ = c.loop-next.next in
    let pilot : ℕ = next + c.from.result in
    let count : ℕ = c.trailing_ones-skipped.result in
    let ones = (bit_at-trailing_ones w64 flags (omega (arith, c.loop-next.invariant.bound))).2 in
    let skipped : FailsBelow test pilot = fails_skipped test next flags c.from.result
    c.loop-next.invariant.lower c.loop-next.invariant.fail (λ i within. ones i (omega (arith, within, c.from.ensures, c.trailing_ones-skipped.ensures))) in
    record {
      bound = omega (arith, c.loop-next.invariant.bound, shr_le flags count);
      pass = now.pass;
      looks = looked_on c.group_flags-flags.new.pass.view before after c.loop-next.invariant.looks now.looks;
      room = now.room ∙ c.loop-next.invariant.room;
      lower = rejects_next after rank pilot (rejects_on before after rank pilot now.looks skipped) (c.if-try_pilot.ensures.rejected refl);
      fail = subst (λ n. FailWhereSet (fits_at after.plan (found_taken after.looks) rank) (next + n + 1) (flags / 2 ^ count / 2 ^ 1)) (sym c.from.ensures)
          (flags_past (fits_at after.plan (found_taken after.looks) rank) next flags count
          (rejected_on before after rank next flags now.looks c.loop-next.invariant.fail));
    }
