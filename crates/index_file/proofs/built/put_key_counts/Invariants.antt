use Rattle.index_file.specs.Pieces.{key_count_text}
use Rattle.index_file.proofs.Written.{ArePieces}
use Rattle.index_file.proofs.built.put_key_counts.Given as goal

abbrev pub invariant-loop-i : goal.invariant-loop-i
invariant-loop-i l = ArePieces key_count_text l.parts l.fn.out.items l.i l.out.items
