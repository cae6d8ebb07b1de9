use Rattle.std.proofs.Common.{◌≡◌, ℕ, ◌+◌, ◌-◌, List, length, drop, get_or, ap, ◌∙◌, inl, inr, arith}
use Rattle.pilot_codecs.specs.Reading.{rise_from, rise_len}
use Rattle.pilot_codecs.proofs.DictLemmas.{rise_first, rise_step, rise_stop, rise_len-nil, rise_from-nil}
use Rattle.std.proofs.lemmas.List.{nil_from_length, drop_all}
use Rattle.std.proofs.lemmas.Bool.{cases_lt}
use Rattle.pilot_codecs.proofs.entries.rise.Goals as goal

pub loop-i-init : goal.loop-i-init
loop-i-init c = λ some. rise_first c.args.entries.now some

pub returns-then-entries-i : goal.returns-then-entries-i
returns-then-entries-i c =
    let ds = c.args.entries.now in
    let i = c.loop-i.i in
    omega (arith, c.loop-i.invariant (omega (arith, c.loop-i-test.true)), rise_stop ds i (get_or ds (i - 1) 0) c.loop-i-test.true c.if-entries-i.true)

pub loop-i-preserved : goal.loop-i-preserved
loop-i-preserved c = λ some.
    let ds = c.args.entries.now in
    let i = c.loop-i.i in
    let last : i + 1 - 1 ≡ i = omega arith in
    let step = rise_step ds i (get_or ds (i - 1) 0) c.loop-i-test.true c.if-entries-i.false in
    let now = ap (λ (k : ℕ). rise_from (get_or ds k 0) (drop (i + 1) ds)) last in
    omega (arith, c.loop-i.invariant some, step, now)

pub returns : goal.returns
returns c =
    let ds = c.args.entries.now in
    let i = c.loop-i.i in
    elim (cases_lt 0 (length ds)) [
      | inl some ↦
          let done = ap (λ (xs : List ℕ). rise_from (get_or ds (i - 1) 0) xs) (drop_all i ds c.loop-i-test.false) ∙ rise_from-nil (get_or ds (i - 1) 0) in
          omega (arith, c.loop-i.invariant some, done, c.loop-i-test.false, c.loop-i.auto.i-end some)
      | inr none ↦ omega (arith, ap (λ (xs : List ℕ). rise_len xs) (nil_from_length ds (omega (arith, none))), rise_len-nil)
    ]
