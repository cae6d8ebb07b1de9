use Rattle.std.proofs.Common.{◌≡◌, ℕ, ◌+◌, ◌-◌, ◌*◌, ◌<◌, ◌≤◌, List, [], length, take, drop, min, ap, ◌∙◌, arith}
use Rattle.std.proofs.lemmas.List.{get_or_read, take_all}
use Rattle.pthash.specs.declared.Record.{Record}
use Rattle.block_pool.specs.declared.blocks.Chain.{Chain}
use Rattle.block_pool.specs.declared.blocks.Pool.TheInside.{Inside}
use Rattle.block_pool.specs.Chains.{chain_at}
use Rattle.block_pool.specs.Linking.{NO_CHAIN, held_at, block_from}
use Rattle.block_pool.specs.Layout.{IsSound}
use Rattle.block_pool.proofs.Views.{length-chains, length-chain_at, front-is}
use Rattle.block_pool.proofs.blocks.Pool.front.Goals as goal

-- a list without elements
none : (xs : List Record) → length xs ≡ 0 → [] ≡ xs
none xs no_one = take_all 0 xs (omega arith)

-- the first block of a chain is in the region
in_region : (s : Inside) → IsSound s → (chain : ℕ) → 0 < (held_at s.chains.items chain).len
    → (held_at s.chains.items chain).head * 1024 + 1024 ≤ length s.records.items
unfolding block_from
in_region s sound chain some =
    let head : (held_at s.chains.items chain).head < s.made = sound.linked.inside chain 0 some in
    let stored = sound.stored in
    omega arith

pub returns-then-held-eq0 : goal.returns-then-held-eq0
returns-then-held-eq0 c =
    let s = c.self.inside in
    let chains = s.chains.items in
    let chain = c.args.chain in
    let count = length-chains s.records.items s.next.items chains c.args.self.now c.self.view_is in
    let asked = c.requires in
    let present : chain < length chains = omega arith in
    let held : c.index-held.result.now ≡ held_at chains chain = get_or_read chains chain c.index-held.result.now present c.index-held.ensures NO_CHAIN in
    let len : c.index-held.result.now.len ≡ (held_at chains chain).len = ap (λ (ch : Chain). ch.len) held in
    let long = length-chain_at s.records.items s.next.items chains c.args.self.now c.self.view_is chain present in
    let zero = c.if-held-eq0.true in
    let empty : [] ≡ chain_at c.args.self.now chain = none (chain_at c.args.self.now chain) (omega arith) in
    ap (take 1024) empty

pub slice_bounds-result-end-2 : goal.slice_bounds-result-end-2
slice_bounds-result-end-2 c =
    let s = c.self.inside in
    let chains = s.chains.items in
    let chain = c.args.chain in
    let count = length-chains s.records.items s.next.items chains c.args.self.now c.self.view_is in
    let asked = c.requires in
    let present : chain < length chains = omega arith in
    let held : c.index-held.result.now ≡ held_at chains chain = get_or_read chains chain c.index-held.result.now present c.index-held.ensures NO_CHAIN in
    let len : c.index-held.result.now.len ≡ (held_at chains chain).len = ap (λ (ch : Chain). ch.len) held in
    let head : c.index-held.result.now.head ≡ (held_at chains chain).head = ap (λ (ch : Chain). ch.head) held in
    let some = c.if-held-eq0.false in
    let within = in_region s c.self.invariant chain (omega arith) in
    let region = ap length c.deref-2.ensures.value in
    let min_is = c.min.ensures in
    omega arith

pub returns : goal.returns
returns c =
    let s = c.self.inside in
    let chains = s.chains.items in
    let chain = c.args.chain in
    let count = length-chains s.records.items s.next.items chains c.args.self.now c.self.view_is in
    let asked = c.requires in
    let present : chain < length chains = omega arith in
    let held : c.index-held.result.now ≡ held_at chains chain = get_or_read chains chain c.index-held.result.now present c.index-held.ensures NO_CHAIN in
    let len : c.index-held.result.now.len ≡ (held_at chains chain).len = ap (λ (ch : Chain). ch.len) held in
    let head : c.index-held.result.now.head ≡ (held_at chains chain).head = ap (λ (ch : Chain). ch.head) held in
    let some = c.if-held-eq0.false in
    let within = in_region s c.self.invariant chain (omega arith) in
    let min_is = c.min.ensures in
    let n : c.index-held.result.now.head * 1024 + c.min.result - c.index-held.result.now.head * 1024 ≡ min (held_at chains chain).len 1024 = omega arith in
    let start : c.index-held.result.now.head * 1024 ≡ (held_at chains chain).head * 1024 = omega arith in
    ap (λ (k : ℕ). take k (drop (c.index-held.result.now.head * 1024) c.deref-2.result.now)) n
    ∙ ap (λ (k : ℕ). take (min (held_at chains chain).len 1024) (drop k c.deref-2.result.now)) start
    ∙ ap (λ (xs : List Record). take (min (held_at chains chain).len 1024) (drop ((held_at chains chain).head * 1024) xs)) c.deref-2.ensures.value
    ∙ front-is s.records.items s.next.items chains c.args.self.now c.self.view_is chain present (omega arith)
