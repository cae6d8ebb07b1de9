use Rattle.std.proofs.Common.{◌≡◌, List, [], ◌++◌, take, drop, ap, ◌∙◌, append_assoc}
use Rattle.std.proofs.lemmas.List.{get_or-set_same, take-append-drop}
use Rattle.pthash.specs.declared.Record.{Record}
use Rattle.block_pool.specs.Chains.{PoolData, chain_at}
use Rattle.callers.proofs.spills.spill.Goals as goal

pub returns-clause-order : goal.returns-clause-order
returns-clause-order c =
    let p : PoolData = c.args.pool.now in
    let chain = c.longest-chain.result in
    let xs : List Record = chain_at p chain in
    let old : List Record = c.args.spilled.now.items in
    let left : chain_at c.drop_front.new.self chain ≡ drop 1024 xs =
    ap (λ (q : PoolData). chain_at q chain) c.drop_front.ensures ∙ get_or-set_same p.chains chain (drop 1024 xs) [] c.longest-chain.ensures.inside in
    let out : c.extend_from_slice.new.self.items ≡ old ++ take 1024 xs =
    c.in_ok-extend_from_slice.ensures.items ∙ ap (λ (ys : List Record). old ++ ys) c.front.ensures in
    ap (λ (ys : List Record). ys ++ chain_at c.drop_front.new.self chain) out
    ∙ ap (λ (ys : List Record). (old ++ take 1024 xs) ++ ys) left
    ∙ append_assoc old (take 1024 xs) (drop 1024 xs)
    ∙ ap (λ (ys : List Record). old ++ ys) (take-append-drop 1024 xs)
