use Rattle.std.specs.Prelude.{◌≤◌}
use Rattle.std.proofs.Common.{◌∙◌, arith}
use Rattle.key_check.proofs.Walking.{end_is}
use Rattle.key_check.proofs.walk.Walk.end.Goals as goal

pub returns : goal.returns
returns c before walked =
    let x = c.args.index.now.index in
    let n = c.head-head.ensures.n in
    let enough : x.n ≤ c.args.self.now.lines = omega (arith, c.if-self-head.false) in
    c.compare.ensures ∙ end_is x before c.args.self.now c.head-head.result.mark walked c.head-head.ensures.mark enough
