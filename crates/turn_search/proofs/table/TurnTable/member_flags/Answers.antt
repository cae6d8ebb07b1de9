use Rattle.std.proofs.Common.{◌≡◌, ℕ, ◌+◌, ◌-◌, ◌*◌, ◌%◌, ◌∙◌, sym, ap, subst, arith}
use Rattle.std.specs.Prelude.{bit_xor, slice_index}
use Rattle.std.proofs.lemmas.Grind.{pow_more}
use Rattle.pilot_search.specs.Flags.{FailWhereSet}
use Rattle.turn_search.specs.Looks.{is_open_under}
use Rattle.turn_search.proofs.MoreLooks.{looked_on, looked_once}
use Rattle.turn_search.proofs.Flagged.{one_more_look, flag_bound}
use Rattle.turn_search.proofs.table.TurnTable.member_flags.Goals as goal

pub returns-clause-fail : goal.returns-clause-fail
returns-clause-fail c = c.loop-done.invariant.fail c.args.from (omega arith)

pub loop-done-preserved : goal.loop-done-preserved
loop-done-preserved c =
    let one = c.loop-done.pass.view in
    let two = c.is_free-free.new.pass.view in
    let look = c.is_free-free.ensures.look in
    let free = c.is_free-free.result in
    let p = c.remainder.result in
    let hashes = c.args.hashes.now in
    let member = c.args.member in
    let size = c.args.size.now in
    let done : ℕ = c.loop-done.done in
    let flags : ℕ = c.loop-done.flags in
    let once = looked_once one two p free look in
    record {
      pass = c.is_free-free.ensures.pass;
      looks = looked_on c.args.pass.now.view one two c.loop-done.invariant.looks once;
      bound = omega (arith, c.loop-done.invariant.bound, pow_more 2 done, c.from.ensures, flag_bound free);
      fail = λ place at.
          let index : c.args.from + 7 - done ≡ place = omega (arith, at) in
          let is : p ≡ bit_xor member (slice_index hashes place) % size =
          c.remainder.ensures.value ∙ ap (λ i. bit_xor member (slice_index hashes i) % size) index in
          subst (λ f. FailWhereSet (is_open_under two.looks hashes member size) place (2 * flags + f)) (sym c.from.ensures)
          (one_more_look one two hashes member size place p flags free once look is (c.loop-done.invariant.fail (place + 1) (omega (arith, at))));
    }
