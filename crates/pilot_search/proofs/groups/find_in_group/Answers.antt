use Rattle.std.proofs.Common.{◌≡◌, ◌+◌, ◌/◌, ◌^◌, ◌<◌, ◌≤◌, ◌∙◌}
use Rattle.std.proofs.Common.{ℕ, Bool, false, length, sym, ap, subst, arith, ⊎_elim}
use Rattle.std.specs.Int.{w64}
use Rattle.std.specs.FinSet.{contains}
use Rattle.std.proofs.lemmas.Bool.{cases_lt}
use Rattle.std.proofs.lemmas.Nat.{shr_le}
use Rattle.std.proofs.lemmas.Nat.Bits.{bit_at-trailing_ones}
use Rattle.pthash.specs.Least.{FailsBelow}
use Rattle.pthash.specs.Search.{pilot_fits}
use Rattle.pilot_search.specs.Flags.{FailWhereSet}
use Rattle.pilot_search.proofs.FlagLemmas.{fails_skipped, fits_kept, flags_past}
use Rattle.pilot_search.proofs.groups.find_in_group.Goals as goal

pub returns-then-pilot-end-clause-pilot : goal.returns-then-pilot-end-clause-pilot
returns-then-pilot-end-clause-pilot c =
    let test : ℕ → Bool = pilot_fits c.args.seed c.args.size.now (contains c.args.occupied.now.taken) c.args.members.now in
    let ones = (bit_at-trailing_ones w64 c.loop-next.flags (omega (arith, c.loop-next.invariant.bound))).2 in
    let skipped : FailsBelow test (c.loop-next.next + c.from.result) = fails_skipped test c.loop-next.next c.loop-next.flags c.from.result
    c.loop-next.invariant.fails c.loop-next.invariant.flagged (λ i within. ones i (omega (arith, within, c.from.ensures, c.trailing_ones-skipped.ensures))) in
    record { fails = λ j (below : j < c.args.from + 8). skipped.fails j (omega (arith, below, c.if-pilot-end.true)) }

pub returns-then-is_fit-clause-pilot : goal.returns-then-is_fit-clause-pilot
returns-then-is_fit-clause-pilot c =
    let table = c.args.occupied.now in
    let test : ℕ → Bool = pilot_fits c.args.seed c.args.size.now (contains table.taken) c.args.members.now in
    let pilot : ℕ = c.loop-next.next + c.from.result in
    let ones = (bit_at-trailing_ones w64 c.loop-next.flags (omega (arith, c.loop-next.invariant.bound))).2 in
    let skipped : FailsBelow test pilot = fails_skipped test c.loop-next.next c.loop-next.flags c.from.result
    c.loop-next.invariant.fails c.loop-next.invariant.flagged (λ i within. ones i (omega (arith, within, c.from.ensures, c.trailing_ones-skipped.ensures))) in
    let kept : pilot < length c.args.hashes.now = omega (arith, c.if-pilot-end.false, c.requires.group) in
    record {
      below = c.if-pilot-end.false;
      passes = fits_kept table c.args.hashes.now c.args.members.now c.args.seed c.args.size.now pilot c.requires.size c.requires.hashes kept
          ∙ sym c.is_fit.ensures.fits ∙ c.if-is_fit.true;
      first = skipped.fails;
    }

pub loop-next-preserved : goal.loop-next-preserved
loop-next-preserved c =
    let table = c.args.occupied.now in
    let test : ℕ → Bool = pilot_fits c.args.seed c.args.size.now (contains table.taken) c.args.members.now in
    let flags : ℕ = c.loop-next.flags in
    let next : ℕ = c.loop-next.next in
    let pilot : ℕ = next + c.from.result in
    let count : ℕ = c.trailing_ones-skipped.result in
    let ones = (bit_at-trailing_ones w64 flags (omega (arith, c.loop-next.invariant.bound))).2 in
    let skipped : FailsBelow test pilot = fails_skipped test next flags c.from.result
    c.loop-next.invariant.fails c.loop-next.invariant.flagged (λ i within. ones i (omega (arith, within, c.from.ensures, c.trailing_ones-skipped.ensures))) in
    let kept : pilot < length c.args.hashes.now = omega (arith, c.if-pilot-end.false, c.requires.group) in
    let last : test pilot ≡ false =
    fits_kept table c.args.hashes.now c.args.members.now c.args.seed c.args.size.now pilot c.requires.size c.requires.hashes kept
    ∙ sym c.is_fit.ensures.fits ∙ c.if-is_fit.false in
    record {
      bound = omega (arith, c.loop-next.invariant.bound, shr_le flags count);
      fails = record {
        fails = λ j below.
            ⊎_elim
            (λ (earlier : j < pilot). skipped.fails j earlier)
            (λ (later : pilot ≤ j). let same : j ≡ pilot = omega (arith, later, below) in ap test same ∙ last)
            (cases_lt j pilot);
      };
      flagged = subst (λ n. FailWhereSet test (next + n + 1) (flags / 2 ^ count / 2 ^ 1)) (sym c.from.ensures)
          (flags_past test next flags count c.loop-next.invariant.flagged);
      marks = c.is_fit.ensures.marks;
    }
