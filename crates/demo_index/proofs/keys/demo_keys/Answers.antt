use Rattle.std.specs.Prelude.{◌≡◌, ◌++◌, ◌∷◌, [], length}
use Rattle.std.proofs.Common.{sym, ap, ◌∙◌, subst, arith}
use Rattle.build_outcome.specs.BuiltLaws.{AreDistinctKeys}
use Rattle.demo_index.specs.Keys.{demo_keys_of}
use Rattle.demo_index.proofs.DistinctKeys.{demo_keys-none, demo_keys-more, length-demo_keys, demo_keys-distinct}
use Rattle.demo_index.proofs.keys.demo_keys.Goals as goal

pub loop-number-init : goal.loop-number-init
loop-number-init c = c.new-keys.ensures ∙ sym (demo_keys-none c.args.seed)

pub loop-number-preserved : goal.loop-number-preserved
loop-number-preserved c =
    c.in_ok-push.ensures.ok ∙ (λ i. c.loop-number.invariant i ++ c.key_of.ensures i ∷ []) ∙ sym (demo_keys-more c.loop-number.number c.args.seed)

pub returns-clause-ok : goal.returns-clause-ok
returns-clause-ok c =
    let all : c.loop-number.number ≡ c.args.count = omega (arith, c.loop-number-test.false, c.loop-number.auto.number-end) in
    c.loop-number.invariant ∙ ap (λ n. demo_keys_of n c.args.seed) all

pub returns-clause-count : goal.returns-clause-count
returns-clause-count c =
    let all : c.loop-number.number ≡ c.args.count = omega (arith, c.loop-number-test.false, c.loop-number.auto.number-end) in
    ap length c.loop-number.invariant ∙ length-demo_keys c.loop-number.number c.args.seed ∙ all

pub returns-clause-distinct : goal.returns-clause-distinct
returns-clause-distinct c =
    subst AreDistinctKeys (sym c.loop-number.invariant)
    (demo_keys-distinct c.loop-number.number c.args.seed c.ranges.seed.fits
    (omega (arith, c.loop-number-test.false, c.loop-number.auto.number-end, c.ranges.count.fits)))
