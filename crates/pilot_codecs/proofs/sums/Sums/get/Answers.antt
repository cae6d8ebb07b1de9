use Rattle.std.proofs.Common.{◌≡◌, ℕ, suc, ◌+◌, ◌-◌, ◌<◌, List, length, get_or, Some, sym, ap, ◌∙◌, arith}
use Rattle.std.specs.List.{slice_get}
use Rattle.elias_fano.proofs.CallerLemmas.{slice_get-none, slice_get-is}
use Rattle.pilot_codecs.specs.Reading.{steps_from}
use Rattle.pilot_codecs.proofs.SumLemmas.{length-steps_from, slice_get-steps_first, slice_get-steps, step_up}
use Rattle.pilot_codecs.proofs.sums.Sums.get.Goals as goal

-- a value of a list by its index
got : (ss : List ℕ) (i j v : ℕ) → j ≡ i → i < length ss → v ≡ get_or ss j 0 → slice_get ss i ≡ Some v
got ss i j v same lt e = slice_get-is ss i 0 lt ∙ ap Some (ap (λ (k : ℕ). get_or ss k 0) (sym same) ∙ sym e)

pub returns-then-i-len : goal.returns-then-i-len
returns-then-i-len c =
    sym (slice_get-none (steps_from 0 c.self.inside.list) c.args.i
    (omega (arith, length-steps_from 0 c.self.inside.list, c.len.ensures.value, c.if-i-len.true)))
    ∙ ap (λ (vs : List ℕ). slice_get vs c.args.i) c.self.view_is

pub returns-then-i-eq0 : goal.returns-then-i-eq0
returns-then-i-eq0 c =
    c.get.ensures ∙ sym (slice_get-steps_first c.self.inside.list)
    ∙ ap (λ (k : ℕ). slice_get (steps_from 0 c.self.inside.list) k) (sym c.if-i-eq0.true) ∙ ap (λ (vs : List ℕ). slice_get vs c.args.i) c.self.view_is

pub overflow_sub-result : goal.overflow_sub-result
overflow_sub-result c =
    let ss = c.self.inside.list in
    let i = c.args.i in
    let lt : i < length ss = omega (arith, c.len.ensures.value, c.if-i-len.false) in
    let before = got ss (i - 1) (i - 1) c.pair-before.result.0 (omega arith) (omega arith) c.pair-before.ensures.value in
    let here = got ss (suc (i - 1)) (i - 1 + 1) c.pair-before.result.1 (omega arith) (omega (arith, c.if-i-eq0.false)) c.pair-before.ensures.next in
    step_up 0 ss (i - 1) c.pair-before.result.0 c.pair-before.result.1 c.self.invariant.rising before here

pub returns : goal.returns
returns c =
    let ss = c.self.inside.list in
    let i = c.args.i in
    let lt : i < length ss = omega (arith, c.len.ensures.value, c.if-i-len.false) in
    let next : i ≡ suc (i - 1) = omega (arith, c.if-i-eq0.false) in
    let before = got ss (i - 1) (i - 1) c.pair-before.result.0 (omega arith) (omega arith) c.pair-before.ensures.value in
    let here = got ss (suc (i - 1)) (i - 1 + 1) c.pair-before.result.1 (omega arith) (omega (arith, next)) c.pair-before.ensures.next in
    sym (slice_get-steps 0 ss (i - 1) c.pair-before.result.0 c.pair-before.result.1 before here)
    ∙ ap (λ (k : ℕ). slice_get (steps_from 0 ss) k) (sym next) ∙ ap (λ (vs : List ℕ). slice_get vs i) c.self.view_is
