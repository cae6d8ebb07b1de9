use Rattle.std.proofs.Common.{◌<◌, length, sym, ap, ◌∙◌, arith}
use Rattle.std.proofs.lemmas.List.{get_or_read}
use Rattle.block_pool.specs.declared.blocks.Chain.{Chain}
use Rattle.block_pool.specs.Linking.{NO_CHAIN}
use Rattle.block_pool.proofs.Views.{length-chains, length-chain_at}
use Rattle.block_pool.proofs.blocks.Pool.len.Goals as goal

pub returns : goal.returns
returns c =
    let s = c.self.inside in
    let chains = s.chains.items in
    let count = length-chains s.records.items s.next.items chains c.args.self.now c.self.view_is in
    let asked = c.requires in
    let present : c.args.chain < length chains = omega arith in
    c.from.ensures
    ∙ ap (λ (ch : Chain). ch.len) (get_or_read chains c.args.chain c.index.result.now present c.index.ensures NO_CHAIN)
    ∙ sym (length-chain_at s.records.items s.next.items chains c.args.self.now c.self.view_is c.args.chain present)
