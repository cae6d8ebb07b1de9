use Rattle.std.proofs.Common.{ℕ, ◌+◌, ◌/◌, ◌^◌, List, false, length, take, replicate, ap, ◌∙◌, arith}
use Rattle.std.proofs.lemmas.List.{take_all}
use Rattle.elias_fano.specs.Spelling.{last_of, high_places, marks, high_len}
use Rattle.elias_fano.proofs.TextLemmas.{length-marks}
use Rattle.elias_fano.proofs.BuildLemmas.{high_first, high_step, place_within}
use Rattle.elias_fano.proofs.build.high_part.Goals as goal

pub loop-i-init : goal.loop-i-init
loop-i-init c =
    let vs = c.args.values.now in
    let w = c.args.width in
    c.in_ok-high.ensures ∙ ap (λ (u : ℕ). replicate (length vs + u / 2 ^ w + 1) false) c.last_value.ensures
    ∙ high_first w (high_len (length vs) (last_of 0 vs) w)

pub overflow_add-value : goal.overflow_add-value
overflow_add-value c =
    omega (arith, place_within c.args.width c.args.values.now c.loop-i.i c.requires.rising c.loop-i-test.true, c.requires.few, c.requires.few_high)

pub set-requires : goal.set-requires
set-requires c =
    let vs = c.args.values.now in
    let w = c.args.width in
    let n = high_len (length vs) (last_of 0 vs) w in
    let size = ap length c.loop-i.invariant ∙ length-marks 0 n (high_places w 0 (take c.loop-i.i vs)) in
    omega (arith, place_within w vs c.loop-i.i c.requires.rising c.loop-i-test.true, size)

pub loop-i-preserved : goal.loop-i-preserved
loop-i-preserved c =
    let vs = c.args.values.now in
    let w = c.args.width in
    c.set.ensures ∙ high_step w (high_len (length vs) (last_of 0 vs) w) vs c.loop-i.i c.loop-i.high c.loop-i-test.true
    (place_within w vs c.loop-i.i c.requires.rising c.loop-i-test.true) c.loop-i.invariant

pub returns : goal.returns
returns c =
    let vs = c.args.values.now in
    let w = c.args.width in
    c.loop-i.invariant ∙ ap (λ (xs : List ℕ). marks 0 (high_len (length vs) (last_of 0 vs) w) (high_places w 0 xs))
    (take_all c.loop-i.i vs c.loop-i-test.false)
