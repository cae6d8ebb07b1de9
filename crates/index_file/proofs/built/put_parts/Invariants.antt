use Rattle.index_text.specs.Text.{part_text}
use Rattle.index_file.proofs.Written.{ArePieces}
use Rattle.index_file.proofs.built.put_parts.Given as goal

abbrev pub invariant-loop-i : goal.invariant-loop-i
invariant-loop-i l = ArePieces (part_text l.enc) l.parts l.fn.out.items l.i l.out.items
