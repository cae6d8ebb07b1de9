use Rattle.std.proofs.Common.{List, ◌++◌, take, sym, ap, ◌∙◌, rules, arith}
use Rattle.pthash.specs.declared.Record.{Record}
use Rattle.hem_build.proofs.Gathering.{gathered_more}
use Rattle.hem_build.specs.Gathering.{gathered}
use Rattle.hem_build.proofs.pieces.gather_into.Goals as goal

pub loop-i-preserved : goal.loop-i-preserved
loop-i-preserved c =
    c.in_ok-extend_from_slice.ensures.items
    ∙ ap (λ (rs : List Record). rs ++ c.records.result.now) c.loop-i.invariant
    ∙ ap (λ (rs : List Record). gathered (take c.loop-i.i c.args.pieces.now) c.args.number ++ rs) c.records.ensures
    ∙ sym (gathered_more c.args.pieces.now c.loop-i.i c.args.number c.index-pieces-i.result (omega arith) (search rules))
