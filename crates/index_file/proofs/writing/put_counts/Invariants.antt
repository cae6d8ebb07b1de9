use Rattle.index_file.specs.Pieces.{count_text}
use Rattle.index_file.proofs.Written.{ArePieces}
use Rattle.index_file.proofs.writing.put_counts.Given as goal

abbrev pub invariant-loop-i : goal.invariant-loop-i
invariant-loop-i l = ArePieces count_text l.parts l.fn.out.items l.i l.out.items
