use Rattle.std.proofs.Common.{◌≡◌, length, arith}
use Rattle.block_pool.proofs.Views.{view-new}
use Rattle.block_pool.proofs.blocks.Pool.new.Goals as goal

pub returns : goal.returns
returns c =
    let next = c.in_ok-vec.ensures in
    let chains = c.in_ok-vec-3.ensures in
    let count : length c.in_ok-vec.field-0.items ≡ c.args.blocks = let len = next.len in omega arith in
    view-new c.in_ok-with_capacity.field-0.items c.in_ok-vec.field-0.items c.in_ok-vec-3.field-0.items c.args.blocks c.args.chains count
    (chains.items_if_clones_equal (λ y same. same))
