use Rattle.std.proofs.Common.{◌≡◌, ℕ, ◌-◌, ◌<◌, List, [], length, drop, set, get_or, sym, ap, ◌∙◌, arith}
use Rattle.std.proofs.lemmas.List.{get_or_read, drop_all, set-get_or, length-set}
use Rattle.pthash.specs.declared.Record.{Record}
use Rattle.block_pool.specs.declared.blocks.Chain.{Chain}
use Rattle.block_pool.specs.declared.blocks.Pool.TheInside.{Inside}
use Rattle.block_pool.specs.Chains.{PoolData, chain_at}
use Rattle.block_pool.specs.Linking.{NO_CHAIN, held_at, block_from}
use Rattle.block_pool.specs.Layout.{IsSound}
use Rattle.block_pool.proofs.Views.{length-chains, length-chain_at, view-without}
use Rattle.block_pool.proofs.Dropped.{Drops, linked-dropped}
use Rattle.block_pool.proofs.blocks.Pool.drop_front.Goals as goal

-- the first block of a chain has a link
head_in : (s : Inside) → IsSound s → (chain : ℕ) → 0 < (held_at s.chains.items chain).len → (held_at s.chains.items chain).head < length s.next.items
unfolding block_from
head_in s sound chain some =
    let head : (held_at s.chains.items chain).head < s.made = sound.linked.inside chain 0 some in
    let within = sound.linked.made_within in
    omega arith

-- what the chain is after it lost its first block
drops : (s : Inside) → IsSound s → (chain : ℕ) → chain < length s.chains.items → (held : Chain) → held ≡ held_at s.chains.items chain
    → (held.len ≡ 0 → ⊥) → (head len : ℕ) → head ≡ get_or s.next.items held.head head → len ≡ held.len - 1024
    → Drops s.next.items s.chains.items chain (record { head = head; tail = held.tail; len = len })
drops s sound chain present held is some head len link short =
    let long : held.len ≡ (held_at s.chains.items chain).len = ap (λ (ch : Chain). ch.len) is in
    let first : held.head ≡ (held_at s.chains.items chain).head = ap (λ (ch : Chain). ch.head) is in
    let within = head_in s sound chain (omega arith) in
    record {
      present = present;
      some = omega arith;
      head = get_or_read s.next.items held.head head (omega arith) link 0 ∙ ap (λ (b : ℕ). get_or s.next.items b 0) first;
      tail = ap (λ (ch : Chain). ch.tail) is;
      len = short ∙ ap (λ (n : ℕ). n - 1024) long;
    }

pub returns-then-held-eq0 : goal.returns-then-held-eq0
returns-then-held-eq0 c =
    let s = c.self.inside in
    let chains = s.chains.items in
    let chain = c.args.chain in
    let p : PoolData = c.args.self.now in
    let count = length-chains s.records.items s.next.items chains p c.self.view_is in
    let asked = c.requires in
    let present : chain < length chains = omega arith in
    let held : c.index-held.result.now ≡ held_at chains chain = get_or_read chains chain c.index-held.result.now present c.index-held.ensures NO_CHAIN in
    let len : c.index-held.result.now.len ≡ (held_at chains chain).len = ap (λ (ch : Chain). ch.len) held in
    let long = length-chain_at s.records.items s.next.items chains p c.self.view_is chain present in
    let zero = c.if-held-eq0.true in
    let empty : length (chain_at p chain) ≡ 0 = omega arith in
    let none : drop 1024 (chain_at p chain) ≡ chain_at p chain =
    drop_all 1024 (chain_at p chain) (omega arith) ∙ sym (drop_all 0 (chain_at p chain) (omega arith)) in
    let same : set p.chains chain (drop 1024 (chain_at p chain)) ≡ p.chains =
    ap (set p.chains chain) none ∙ set-get_or p.chains chain [] in
    sym (ap (λ (xs : List (List Record)). let q : PoolData = record { blocks = p.blocks; chains = xs } in q) same)

pub index-requires : goal.index-requires
index-requires c =
    let s = c.self.inside in
    let chains = s.chains.items in
    let chain = c.args.chain in
    let count = length-chains s.records.items s.next.items chains c.args.self.now c.self.view_is in
    let asked = c.requires in
    let present : chain < length chains = omega arith in
    let held : c.index-held.result.now ≡ held_at chains chain = get_or_read chains chain c.index-held.result.now present c.index-held.ensures NO_CHAIN in
    let len : c.index-held.result.now.len ≡ (held_at chains chain).len = ap (λ (ch : Chain). ch.len) held in
    let first : c.index-held.result.now.head ≡ (held_at chains chain).head = ap (λ (ch : Chain). ch.head) held in
    let some = c.if-held-eq0.false in
    let within = head_in s c.self.invariant chain (omega arith) in
    omega arith

pub invariant_of-self : goal.invariant_of-self
invariant_of-self c =
    let s = c.self.inside in
    let sound = c.self.invariant in
    let chains = s.chains.items in
    let chain = c.args.chain in
    let count = length-chains s.records.items s.next.items chains c.args.self.now c.self.view_is in
    let asked = c.requires in
    let present : chain < length chains = omega arith in
    let held : Chain = c.index-held.result.now in
    let is : held ≡ held_at chains chain = get_or_read chains chain held present c.index-held.ensures NO_CHAIN in
    let x : Chain = record { head = c.index.result.now; tail = held.tail; len = c.saturating_sub.result } in
    let lost = drops s sound chain present held is c.if-held-eq0.false c.index.result.now c.saturating_sub.result c.index.ensures c.saturating_sub.ensures in
    let spares = c.give_back-self-inside.ensures.items ∙ ap (λ (ch : Chain). set s.spare.items s.spare_count ch.head) is in
    let more = c.give_back-self-inside.ensures.count in
    record {
      linked = rw spares (rw more (linked-dropped s.next.items chains chain x lost s.spare.items s.spare_count s.made sound.linked));
      stored = sound.stored;
      reserved = sound.reserved;
      some_chains = let some = sound.some_chains in let long = length-set chains chain x in omega arith;
      most_chains = let most = sound.most_chains in let long = length-set chains chain x in omega arith;
    }

pub returns : goal.returns
returns c =
    let s = c.self.inside in
    let sound = c.self.invariant in
    let chains = s.chains.items in
    let chain = c.args.chain in
    let count = length-chains s.records.items s.next.items chains c.args.self.now c.self.view_is in
    let asked = c.requires in
    let present : chain < length chains = omega arith in
    let held : Chain = c.index-held.result.now in
    let is : held ≡ held_at chains chain = get_or_read chains chain held present c.index-held.ensures NO_CHAIN in
    let x : Chain = record { head = c.index.result.now; tail = held.tail; len = c.saturating_sub.result } in
    let lost = drops s sound chain present held is c.if-held-eq0.false c.index.result.now c.saturating_sub.result c.index.ensures c.saturating_sub.ensures in
    view-without s.records.items s.next.items chains c.args.self.now c.self.view_is chain x lost
