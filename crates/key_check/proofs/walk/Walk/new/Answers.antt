use Rattle.std.specs.Prelude.{ℕ, false, replicate}
use Rattle.std.proofs.Common.{refl, ap, ◌∙◌, arith}
use Rattle.key_check.proofs.Walking.{for_none, walked_none}
use Rattle.key_check.proofs.walk.Walk.new.Goals as goal

pub no_bits-requires : goal.no_bits-requires
no_bits-requires c = omega (arith, c.head-head.ensures.n, c.head-head.ensures.valid.few_keys)

pub returns-clause-fits : goal.returns-clause-fits
returns-clause-fits c =
    let n = c.head-head.ensures.n in
    for_none c.args.index.now.index _ c.head-head.ensures.seed (c.in_ok-blank.ensures ∙ ap (λ (n : ℕ). replicate n 0) n)
    (c.in_ok-no_bits.ensures ∙ ap (λ (n : ℕ). replicate n false) n) refl

pub returns-clause-walked : goal.returns-clause-walked
returns-clause-walked c =
    walked_none c.args.index.now.index _ (c.in_ok-blank.ensures ∙ ap (λ (n : ℕ). replicate n 0) c.head-head.ensures.n) refl refl
