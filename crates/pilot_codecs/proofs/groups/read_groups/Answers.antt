use Rattle.std.proofs.Common.{◌≡◌, ℕ, ◌+◌, ◌-◌, ◌≤◌, min, List, length, Ok, Err, sym, ap, ◌∙◌, inl, inr, arith}
use Rattle.pilot_codecs.specs.Spelling.{compact_text, groups_for}
use Rattle.pilot_codecs.specs.Reading.{compact_at, groups_at}
use Rattle.pilot_codecs.proofs.GroupLemmas.{with_front, goes_on, ends, is_done, more_read, compact_at-fails}
use Rattle.std.proofs.Math.Nat.{min_comm}
use Rattle.std.proofs.lemmas.List.{length-append}
use Rattle.pilot_codecs.proofs.CompactLaws.{compact_takes}
use Rattle.std.proofs.lemmas.Result.{err_from_is_err_and}
use Rattle.elias_fano.proofs.CallerLemmas.{tells, tells_none}
use Rattle.pilot_codecs.proofs.ShortLaws.{with_short, groups_short}
use Rattle.pilot_codecs.proofs.groups.read_groups.Goals as goal

pub returns-in_err-after-clause-values : goal.returns-in_err-after-clause-values
returns-in_err-after-clause-values c =
    let s : c.min-size.result ≡ min 256 c.loop-left.left = c.min-size.ensures ∙ min_comm c.loop-left.left 256 in
    let p = err_from_is_err_and c.from_residual.result c.from_residual.ensures.1 in
    let fault = compact_at-fails c.in_err-after.field-0.0 c.loop-left.groups c.loop-left.place c.min-size.result c.loop-left.rest.now
    c.in_err-after.ensures.groups in
    rw (p.1, p.2) (ends c.in_err-after.field-0.0 c.loop-left.groups c.loop-left.left c.loop-left.place c.min-size.result c.loop-left.rest.now
    (groups_at (groups_for c.args.count) c.args.at c.args.count c.args.bytes.now) c.loop-left-test.true s fault c.loop-left.invariant.so_far)

pub overflow_sub-place : goal.overflow_sub-place
overflow_sub-place c =
    let m = more_read c.loop-left.groups c.read_more.new.self c.loop-left.place c.min-size.result c.loop-left.rest.now c.in_ok-after.after.now
    c.in_ok-after.ensures.groups in
    let t = compact_takes c.loop-left.place c.min-size.result c.loop-left.rest.now m.group c.in_ok-after.after.now c.loop-left.invariant.fits m.read in
    let shorter : length c.in_ok-after.after.now ≤ length c.loop-left.rest.now =
    omega (arith, ap length t.taken.parts, length-append (compact_text m.group) c.in_ok-after.after.now) in
    shorter

pub loop-left-preserved : goal.loop-left-preserved
loop-left-preserved c =
    let s : c.min-size.result ≡ min 256 c.loop-left.left = c.min-size.ensures ∙ min_comm c.loop-left.left 256 in
    let m = more_read c.loop-left.groups c.read_more.new.self c.loop-left.place c.min-size.result c.loop-left.rest.now c.in_ok-after.after.now
    c.in_ok-after.ensures.groups in
    let t = compact_takes c.loop-left.place c.min-size.result c.loop-left.rest.now m.group c.in_ok-after.after.now c.loop-left.invariant.fits m.read in
    let shorter : length c.in_ok-after.after.now ≤ length c.loop-left.rest.now =
    omega (arith, ap length t.taken.parts, length-append (compact_text m.group) c.in_ok-after.after.now) in
    record {
      so_far = ap (λ (gs : List (List ℕ)).
          with_front gs (groups_at (groups_for (c.loop-left.left - c.min-size.result))
          (c.loop-left.place + (length c.loop-left.rest.now - length c.in_ok-after.after.now)) (c.loop-left.left - c.min-size.result) c.in_ok-after.after.now))
          m.more
          ∙ goes_on c.loop-left.groups c.loop-left.left c.loop-left.place c.min-size.result c.loop-left.rest.now m.group c.in_ok-after.after.now
          (groups_at (groups_for c.args.count) c.args.at c.args.count c.args.bytes.now) c.loop-left-test.true s m.read c.loop-left.invariant.so_far;
      few = omega (arith, c.loop-left.invariant.few);
      from = omega (arith, c.loop-left.invariant.from);
      places = omega (arith, c.loop-left.invariant.places, shorter);
      fits = t.taken.rest_fits;
    }

pub returns-clause-values : goal.returns-clause-values
returns-clause-values c =
    is_done c.loop-left.groups c.loop-left.left c.loop-left.place c.loop-left.rest.now
    (groups_at (groups_for c.args.count) c.args.at c.args.count c.args.bytes.now) (omega (arith, c.loop-left-test.false)) c.loop-left.invariant.so_far
    ∙ ap (λ (gs : List (List ℕ)). Ok (gs, c.loop-left.rest.now)) (sym c.shrink.ensures)

pub returns-in_err-after-clause-short : goal.returns-in_err-after-clause-short
returns-in_err-after-clause-short c =
    let at = c.args.at in
    let left = c.loop-left.left in
    let place = c.loop-left.place in
    let rest = c.loop-left.rest.now in
    let whole = groups_at (groups_for c.args.count) at c.args.count c.args.bytes.now in
    let e = c.in_err-after.field-0.0 in
    let s : c.min-size.result ≡ min 256 left = c.min-size.ensures ∙ min_comm left 256 in
    let p = err_from_is_err_and c.from_residual.result c.from_residual.ensures.1 in
    let fault = compact_at-fails e c.loop-left.groups place c.min-size.result rest c.in_err-after.ensures.groups in
    tells at e _ whole (p.1 ∙ ap Err p.2) (ends e c.loop-left.groups left place c.min-size.result rest whole c.loop-left-test.true s fault
    c.loop-left.invariant.so_far) (λ lacks there le short.
    let here = with_short c.loop-left.groups (groups_at (groups_for left) place left rest) _ (c.loop-left.invariant.so_far ∙ short) in
    elim (groups_short left place there rest c.loop-left.invariant.fits c.loop-left-test.true here) [
      | inl first ↦ c.in_err-after.ensures.memory (ap Err lacks) (there, ap (λ (k : ℕ). compact_at place k rest) s ∙ first)
      | inr behind ↦ omega (arith, behind, le, c.loop-left.invariant.from)
    ])

pub returns-clause-short : goal.returns-clause-short
returns-clause-short c =
    tells_none c.args.at _ (groups_at (groups_for c.args.count) c.args.at c.args.count c.args.bytes.now) (c.loop-left.groups, c.loop-left.rest.now) (is_done
    c.loop-left.groups c.loop-left.left c.loop-left.place c.loop-left.rest.now (groups_at (groups_for c.args.count) c.args.at c.args.count c.args.bytes.now)
    (omega (arith, c.loop-left-test.false)) c.loop-left.invariant.so_far)
