use Rattle.std.proofs.Common.{◌≡◌, ℕ, suc, ◌+◌, ◌<◌, List, length, ◌++◌, take, get_or, sym, ap, ◌∙◌, arith}
use Rattle.std.proofs.Math.Seq.{take-suc}
use Rattle.pthash.specs.declared.Record.{Record}
use Rattle.block_pool.specs.Chains.{PoolData, chain_at, with_chain}
use Rattle.block_pool.specs.Linking.{NO_RECORD}
use Rattle.callers.proofs.Pushed.{pushed-more, pushed-within}
use Rattle.callers.proofs.chains.push_all.Goals as goal

pub loop-item-preserved : goal.loop-item-preserved
loop-item-preserved c =
    let old : PoolData = c.args.pool.now in
    let records : List Record = c.args.records.now in
    let k = c.loop-item.item-index in
    let next : suc k ≡ k + 1 = omega arith in
    let longer = sym (ap (λ (n : ℕ). take n records) next) ∙ take-suc records k NO_RECORD c.loop-item-test.true in
    let chains = c.loop-item.invariant.1 in
    let present = c.requires.present in
    let kept = c.in_default.ensures.kept tt in
    let was = c.loop-item.invariant.0 in
    let item = get_or records k NO_RECORD in
    let more = pushed-more old c.loop-item.pool c.push.new.self c.args.chain (take k records) item present was kept in
    let now : c.args.chain < length c.loop-item.pool.chains = omega arith in
    let room = c.in_default.ensures.full.1 in
    let within = pushed-within c.loop-item.pool c.push.new.self c.args.chain item now c.loop-item.invariant.2 room kept in (
      more ∙ ap (λ (xs : List Record). with_chain old c.args.chain (chain_at old c.args.chain ++ xs)) (sym longer),
      c.push.ensures.chains ∙ chains,
      within,
    )
