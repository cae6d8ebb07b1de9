use Rattle.std.proofs.Common.{◌≡◌, ℕ, ◌<◌, ◌≤◌, List, [], length, ap, subst, arith}
use Rattle.std.proofs.lemmas.List.{get_or_default}
use Rattle.block_pool.specs.declared.blocks.Chain.{Chain}
use Rattle.block_pool.specs.Chains.{PoolData}
use Rattle.block_pool.specs.Linking.{held_at}
use Rattle.block_pool.proofs.Views.{length-chains, length-chain_at}
use Rattle.block_pool.proofs.blocks.Pool.longest.Goals as goal

pub returns-clause-longest : goal.returns-clause-longest
returns-clause-longest c =
    let s = c.self.inside in
    let chains : List Chain = s.chains.items in
    let p : PoolData = c.args.self.now in
    let count = length-chains s.records.items s.next.items chains p c.self.view_is in
    let read : c.deref.result.now ≡ chains = c.deref.ensures.value in
    let best : ℕ = c.longest_of.result in
    let inside : best < length chains = subst (λ (xs : List Chain). best < length xs) read c.longest_of.ensures.inside in
    let longest : (k : ℕ) → k < length chains → (held_at chains k).len ≤ (held_at chains best).len =
    subst (λ (xs : List Chain). (k : ℕ) → k < length xs → (held_at xs k).len ≤ (held_at xs best).len) read c.longest_of.ensures.longest in
    λ k d below.
    let at = ap length (get_or_default p.chains k d [] below) in
    let one = length-chain_at s.records.items s.next.items chains p c.self.view_is k (omega arith) in
    let other = length-chain_at s.records.items s.next.items chains p c.self.view_is best inside in
    let less = longest k (omega arith) in
    omega arith

pub returns-clause-first : goal.returns-clause-first
returns-clause-first c =
    let s = c.self.inside in
    let chains : List Chain = s.chains.items in
    let p : PoolData = c.args.self.now in
    let read : c.deref.result.now ≡ chains = c.deref.ensures.value in
    let best : ℕ = c.longest_of.result in
    let inside : best < length chains = subst (λ (xs : List Chain). best < length xs) read c.longest_of.ensures.inside in
    let first : (k : ℕ) → k < best → (held_at chains k).len < (held_at chains best).len =
    subst (λ (xs : List Chain). (k : ℕ) → k < best → (held_at xs k).len < (held_at xs best).len) read c.longest_of.ensures.first in
    λ k below.
    let one = length-chain_at s.records.items s.next.items chains p c.self.view_is k (omega arith) in
    let other = length-chain_at s.records.items s.next.items chains p c.self.view_is best inside in
    let less = first k below in
    omega arith
