use Rattle.index_file.specs.Pieces.{own_text}
use Rattle.index_file.proofs.Written.{ArePieces}
use Rattle.index_file.proofs.writing.put_partitions.Given as goal

abbrev pub invariant-loop-i : goal.invariant-loop-i
invariant-loop-i l = ArePieces own_text l.parts l.fn.out.items l.i l.out.items
