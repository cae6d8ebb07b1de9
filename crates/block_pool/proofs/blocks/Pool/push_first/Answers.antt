use Rattle.std.proofs.Common.{◌≡◌, ◌+◌, ◌-◌, ◌*◌, ◌%◌, ◌∙◌, refl, arith}
use Rattle.std.proofs.lemmas.List.{length-set}
use Rattle.block_pool.specs.declared.blocks.Chain.{Chain}
use Rattle.block_pool.proofs.Pushed.{looks, length-seen, free-seen, tail_made, spare_fresh, made_fresh, linked-begun, view-begun}
use Rattle.block_pool.proofs.Pushed.{same_length, length-changed, length-grown, get_or-grown}
use Rattle.block_pool.proofs.blocks.Pool.push_first.Goals as goal

-- in a block that was in use before
pub invariant_of-self : goal.invariant_of-self
invariant_of-self c =
    let s = c.self.inside in
    let p = c.args.self.now in
    let held : Chain = c.index-held.result.now in
    let look = looks s c.self.invariant p c.self.view_is c.args.chain c.requires.chain held c.index-held.ensures in
    let full : held.len % 1024 ≡ 0 = omega (arith, length-seen s p c.args.chain held look, c.requires.full) in
    let spare = spare_fresh s p c.args.chain held look c.index-block.result.now c.if-self-gt0.true c.index-block.ensures in
    let counts = length-changed s.chains.items c.args.chain c.begun.result look.sound.some_chains look.sound.most_chains in
    let same = same_length s p c.args.chain held look c.index-block.result.now c.begun.new.next.items c.begun.result c.begun.ensures full spare.fresh in
    record {
      linked = linked-begun s p c.args.chain held look c.index-block.result.now c.begun.new.next.items c.begun.result c.begun.ensures full spare.fresh
          (s.spare_count - 1) s.made (omega arith) look.sound.linked.made_within spare.below (omega arith) spare.apart (omega (arith, c.if-self-gt0.true));
      stored = length-set s.records.items (c.index-block.result.now * 1024) c.args.item ∙ look.sound.stored;
      reserved = omega (arith, look.sound.reserved, same);
      some_chains = counts.0;
      most_chains = counts.1;
    }

pub returns-then-self-gt0-clause-kept : goal.returns-then-self-gt0-clause-kept
returns-then-self-gt0-clause-kept c =
    let s = c.self.inside in
    let p = c.args.self.now in
    let held : Chain = c.index-held.result.now in
    let look = looks s c.self.invariant p c.self.view_is c.args.chain c.requires.chain held c.index-held.ensures in
    let full : held.len % 1024 ≡ 0 = omega (arith, length-seen s p c.args.chain held look, c.requires.full) in
    let spare = spare_fresh s p c.args.chain held look c.index-block.result.now c.if-self-gt0.true c.index-block.ensures in
    λ kept. view-begun s p c.args.chain held look c.index-block.result.now c.begun.new.next.items c.begun.result c.begun.ensures full spare.fresh
    s.records.items c.args.item (λ i h. refl) (omega (arith, spare.below, look.sound.stored))

pub returns-then-self-gt0-clause-full : goal.returns-then-self-gt0-clause-full
returns-then-self-gt0-clause-full c =
    let s = c.self.inside in
    let p = c.args.self.now in
    let held : Chain = c.index-held.result.now in
    let look = looks s c.self.invariant p c.self.view_is c.args.chain c.requires.chain held c.index-held.ensures in
    ((λ never. absurd never), (λ no_room. omega (arith, free-seen s p c.args.chain held look, no_room.0, c.if-self-gt0.true)))

-- in a block that was never in use
pub begun-requires-then-block-len-clause-tail : goal.begun-requires-then-block-len-clause-tail
begun-requires-then-block-len-clause-tail c =
    let s = c.self.inside in
    let p = c.args.self.now in
    let held : Chain = c.index-held.result.now in
    let look = looks s c.self.invariant p c.self.view_is c.args.chain c.requires.chain held c.index-held.ensures in
    λ some. omega (arith, tail_made s p c.args.chain held look some, look.sound.linked.made_within)

pub invariant_of-self-then-block-len : goal.invariant_of-self-then-block-len
invariant_of-self-then-block-len c =
    let s = c.self.inside in
    let p = c.args.self.now in
    let held : Chain = c.index-held.result.now in
    let look = looks s c.self.invariant p c.self.view_is c.args.chain c.requires.chain held c.index-held.ensures in
    let full : held.len % 1024 ≡ 0 = omega (arith, length-seen s p c.args.chain held look, c.requires.full) in
    let made = made_fresh s p c.args.chain held look in
    let begun = c.begun-then-block-len in
    let counts = length-changed s.chains.items c.args.chain begun.result look.sound.some_chains look.sound.most_chains in
    let same = same_length s p c.args.chain held look s.made begun.new.next.items begun.result begun.ensures full made.fresh in
    let grown = length-grown s.records.items c.make_block.new.records.items c.make_block.ensures.items in
    record {
      linked = linked-begun s p c.args.chain held look s.made begun.new.next.items begun.result begun.ensures full made.fresh
          s.spare_count (s.made + 1) (omega arith) (omega (arith, c.if-block-len.true, c.len.ensures)) (omega arith) (omega arith) made.apart (omega arith);
      stored = length-set c.make_block.new.records.items (s.made * 1024) c.args.item ∙ omega (arith, grown, look.sound.stored);
      reserved = omega (arith, look.sound.reserved, same, c.make_block.ensures.capacity);
      some_chains = counts.0;
      most_chains = counts.1;
    }

pub returns-then-block-len-clause-kept : goal.returns-then-block-len-clause-kept
returns-then-block-len-clause-kept c =
    let s = c.self.inside in
    let p = c.args.self.now in
    let held : Chain = c.index-held.result.now in
    let look = looks s c.self.invariant p c.self.view_is c.args.chain c.requires.chain held c.index-held.ensures in
    let full : held.len % 1024 ≡ 0 = omega (arith, length-seen s p c.args.chain held look, c.requires.full) in
    let made = made_fresh s p c.args.chain held look in
    let begun = c.begun-then-block-len in
    let grown = length-grown s.records.items c.make_block.new.records.items c.make_block.ensures.items in
    λ kept. view-begun s p c.args.chain held look s.made begun.new.next.items begun.result begun.ensures full made.fresh
    c.make_block.new.records.items c.args.item
    (λ i h. get_or-grown s.records.items c.make_block.new.records.items c.make_block.ensures.items i (omega (arith, look.sound.stored)))
    (omega (arith, grown, look.sound.stored))

pub returns-then-block-len-clause-full : goal.returns-then-block-len-clause-full
returns-then-block-len-clause-full c =
    let s = c.self.inside in
    let p = c.args.self.now in
    let held : Chain = c.index-held.result.now in
    let look = looks s c.self.invariant p c.self.view_is c.args.chain c.requires.chain held c.index-held.ensures in (
      (λ never. absurd never),
      (λ no_room. omega (arith, free-seen s p c.args.chain held look, no_room.0, c.if-block-len.true, c.len.ensures)),
    )

-- no block is left
pub returns-clause-full : goal.returns-clause-full
returns-clause-full c =
    let s = c.self.inside in
    let p = c.args.self.now in
    let held : Chain = c.index-held.result.now in
    let look = looks s c.self.invariant p c.self.view_is c.args.chain c.requires.chain held c.index-held.ensures in
    let free = free-seen s p c.args.chain held look in
    ((λ full. (omega (arith, free, c.if-self-gt0.false, c.if-block-len.false, c.len.ensures), c.requires.full)), (λ no_room. tt))
