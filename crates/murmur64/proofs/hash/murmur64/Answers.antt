use Rattle.std.proofs.Common.{◌≡◌, ◌≤◌, length, ℕ, take, ap, ◌∙◌}
use Rattle.pthash.specs.Hash.{number_of, after_block, last_mixing}
use Rattle.std.proofs.lemmas.List.{take_rest}
use Rattle.murmur64.proofs.Numbers.{little_from-block}
use Rattle.murmur64.proofs.Steps.{hash_from-first, hash_from-block, hash_from-rest}
use Rattle.murmur64.proofs.hash.murmur64.Goals as goal

pub loop-rest-init : goal.loop-rest-init
loop-rest-init c = hash_from-first c.args.bytes.now c.args.seed

pub loop-rest-preserved : goal.loop-rest-preserved
loop-rest-preserved c =
    let rest = c.loop-rest.rest.now in
    let has_block : 8 ≤ length rest = c.loop-rest-test.true in
    let block = c.read_u64.ensures ∙ little_from-block rest has_block in
    let state : c.mix_block-h.result ≡ after_block c.loop-rest.h (number_of (take 8 rest)) =
    c.mix_block-h.ensures ∙ ap (λ (x : ℕ). after_block c.loop-rest.h x) block in
    rw (take_rest rest 8, state, hash_from-block c.loop-rest.h rest has_block) c.loop-rest.invariant

pub returns : goal.returns
returns c =
    let rest = c.loop-rest.rest.now in
    c.finish.ensures
    ∙ ap last_mixing c.mix_rest.ensures
    ∙ hash_from-rest c.loop-rest.h rest c.loop-rest-test.false
    ∙ c.loop-rest.invariant
