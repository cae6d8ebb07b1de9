use Rattle.std.proofs.Common.{rules}
use Rattle.hem_build.proofs.Gathering.{only_piece}
use Rattle.hem_build.proofs.pieces.Pieces.only.Goals as goal

pub returns-then-len-eq1 : goal.returns-then-len-eq1
returns-then-len-eq1 c =
    only_piece c.self.inside.list.items c.self.inside.parts c.args.self.now c.index.result.now (search rules) c.self.invariant c.self.view_is
    (search rules)
