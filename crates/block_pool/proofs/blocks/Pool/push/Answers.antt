use Rattle.std.proofs.Common.{◌+◌, ◌*◌, ◌%◌, ◌∙◌, arith}
use Rattle.std.proofs.lemmas.List.{length-set}
use Rattle.block_pool.specs.declared.blocks.Chain.{Chain}
use Rattle.block_pool.proofs.Pushed.{looks, length-seen, tail_made, linked-here, view-here, length-changed}
use Rattle.block_pool.proofs.blocks.Pool.push.Goals as goal

-- in one more block
pub push_first-requires-clause-full : goal.push_first-requires-clause-full
push_first-requires-clause-full c =
    let s = c.self.inside in
    let p = c.args.self.now in
    let held : Chain = c.index-held.result.now in
    let look = looks s c.self.invariant p c.self.view_is c.args.chain c.requires held c.index-held.ensures in
    omega (arith, length-seen s p c.args.chain held look, c.if-offset-eq0.true)

-- in the last block of the chain
pub index_mut-requires : goal.index_mut-requires
index_mut-requires c =
    let s = c.self.inside in
    let p = c.args.self.now in
    let held : Chain = c.index-held.result.now in
    let look = looks s c.self.invariant p c.self.view_is c.args.chain c.requires held c.index-held.ensures in
    omega (arith, look.sound.stored, tail_made s p c.args.chain held look (omega (arith, c.if-offset-eq0.false)), c.if-offset-eq0.false)

pub invariant_of-self : goal.invariant_of-self
invariant_of-self c =
    let s = c.self.inside in
    let p = c.args.self.now in
    let held : Chain = c.index-held.result.now in
    let look = looks s c.self.invariant p c.self.view_is c.args.chain c.requires held c.index-held.ensures in
    let longer : Chain = record { head = held.head; tail = held.tail; len = held.len + 1 } in
    let counts = length-changed s.chains.items c.args.chain longer look.sound.some_chains look.sound.most_chains in
    record {
      linked = linked-here s p c.args.chain held look (omega (arith, c.if-offset-eq0.false));
      stored = length-set s.records.items (held.tail * 1024 + held.len % 1024) c.args.item ∙ look.sound.stored;
      reserved = look.sound.reserved;
      some_chains = counts.0;
      most_chains = counts.1;
    }

pub returns-clause-kept : goal.returns-clause-kept
returns-clause-kept c =
    let s = c.self.inside in
    let p = c.args.self.now in
    let held : Chain = c.index-held.result.now in
    let look = looks s c.self.invariant p c.self.view_is c.args.chain c.requires held c.index-held.ensures in
    λ kept. view-here s p c.args.chain held look (omega (arith, c.if-offset-eq0.false)) c.args.item

pub returns-clause-full : goal.returns-clause-full
returns-clause-full c =
    let s = c.self.inside in
    let p = c.args.self.now in
    let held : Chain = c.index-held.result.now in
    let look = looks s c.self.invariant p c.self.view_is c.args.chain c.requires held c.index-held.ensures in
    ((λ never. absurd never), (λ no_room. omega (arith, length-seen s p c.args.chain held look, no_room.1, c.if-offset-eq0.false)))
