use Rattle.std.proofs.Common.{◌≡◌, ◌*◌, length}
use Rattle.std.specs.Vec.Iter.{into_iter_items, into_iter_len}
use Rattle.hem_build.specs.KeyPieces.{ArePieces}
use Rattle.hem_build.specs.declared.cutting.TheConstants.{PIECE_KEYS}
use Rattle.hem_build.proofs.PieceLaws.{AreCutTo}
use Rattle.hem_build.proofs.cutting.join_pieces.Given as goal

abbrev pub invariant-loop-slot : goal.invariant-loop-slot
invariant-loop-slot l = record {
  left : ArePieces l.keys l.seed l.parts (length l.yielded * PIECE_KEYS) (into_iter_items l.slot-iterator);
  len : into_iter_len l.slot-iterator ≡ length (into_iter_items l.slot-iterator);
  so_far : AreCutTo l.keys l.seed l.parts (length l.yielded * PIECE_KEYS) l.list.items l.mark;
}
