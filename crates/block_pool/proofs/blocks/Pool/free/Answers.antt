use Rattle.std.proofs.Common.{arith}
use Rattle.block_pool.proofs.Views.{blocks-is, held_blocks-is, free-is}
use Rattle.block_pool.proofs.blocks.Pool.free.Goals as goal

pub returns-clause-value : goal.returns-clause-value
returns-clause-value c =
    let s = c.self.inside in
    let l = c.self.invariant.linked in
    let free = free-is s.records.items s.next.items s.chains.items c.args.self.now c.self.view_is s.spare.items s.spare_count s.made l in
    let len = c.len.ensures in
    omega arith

pub returns-clause-rest : goal.returns-clause-rest
returns-clause-rest c =
    let s = c.self.inside in
    let l = c.self.invariant.linked in
    let held = held_blocks-is s.records.items s.next.items s.chains.items c.args.self.now c.self.view_is in
    let blocks = blocks-is s.records.items s.next.items s.chains.items c.args.self.now c.self.view_is in
    let counted = l.counted in
    let within = l.made_within in
    let len = c.len.ensures in
    omega arith
