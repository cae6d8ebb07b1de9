use Rattle.std.proofs.Common.{◌++◌, ap, ◌∙◌, arith}
use Rattle.index_file.specs.Pieces.{key_count_text}
use Rattle.index_file.proofs.Written.{pieces_all}
use Rattle.index_file.proofs.BuiltWritten.{key_count_pieces}
use Rattle.index_file.proofs.built.put_key_counts.Goals as goal

pub returns-clause-ok : goal.returns-clause-ok
returns-clause-ok c =
    pieces_all key_count_text c.args.parts.now c.args.out.now.items c.loop-i.i c.loop-i.out.items (omega arith) c.loop-i.invariant.all
    ∙ ap (λ t. c.args.out.now.items ++ t) (key_count_pieces c.args.parts.now)
