use Rattle.std.proofs.Common.{◌≡◌, ℕ, ◌+◌, ◌-◌, List, ◌++◌, take, replicate, ap, ◌∙◌, arith}
use Rattle.std.proofs.lemmas.List.{take_all}
use Rattle.pthash.specs.declared.Record.{Record}
use Rattle.block_pool.specs.Linking.{NO_RECORD}
use Rattle.block_pool.proofs.blocks.make_block.Goals as goal

pub returns-clause-items : goal.returns-clause-items
returns-clause-items c =
    let old : List Record = c.args.records.now.items in
    let n : ℕ = c.args.records.now.len in
    let room = c.requires in
    let len = c.len.ensures in
    let count : c.len.result ≡ n = omega arith in
    let ok = c.resize.ensures.succeeds (omega arith) in
    let more : c.len.result + 1024 - n ≡ 1024 = omega arith in
    let kept : take (c.len.result + 1024) old ≡ old = take_all (c.len.result + 1024) old (omega arith) in
    let items : c.resize.new.self.items ≡ take (c.len.result + 1024) old ++ replicate (c.len.result + 1024 - n) NO_RECORD =
    rw ok at c.resize.ensures.items in
    items ∙ ap (λ (xs : List Record). xs ++ replicate (c.len.result + 1024 - n) NO_RECORD) kept ∙ ap (λ (k : ℕ). old ++ replicate k NO_RECORD) more
