use Rattle.std.proofs.Common.{◌≡◌, ℕ, ◌+◌, ◌*◌, ◌≤◌, [], ◌∷◌, ◌++◌, length, sym, ap, ◌∙◌, subst, arith}
use Rattle.std.specs.Vec.Iter.{into_iter_items}
use Rattle.std.proofs.lemmas.List.{length-append}
use Rattle.std.proofs.lemmas.Result.{IfOk-at_ok}
use Rattle.hem_build.specs.Gathering.{all_gathered}
use Rattle.hem_build.specs.Marks.{added_marks}
use Rattle.hem_build.specs.KeyPieces.{IsPieceFrom, ArePieces}
use Rattle.hem_build.specs.declared.cutting.TheConstants.{PIECE_KEYS}
use Rattle.hem_build.proofs.PieceLaws.{AreCutTo, cut_more, cut_all, marked_to, pieces_done}
use Rattle.hem_build.proofs.cutting.join_pieces.Goals as goal

pub loop-slot-preserved : goal.loop-slot-preserved
loop-slot-preserved c =
    let keys = c.args.keys.now in
    let seed = c.args.seed in
    let parts = c.args.parts in
    let at = c.loop-slot in
    let number : ℕ = length at.yielded in
    let x = c.in-Some.slot in
    let steps = c.in-Some.ensures.steps.0 in
    let left = subst (λ slots. ArePieces keys seed parts (number * PIECE_KEYS) slots) steps at.invariant.left in
    let next : number * PIECE_KEYS + PIECE_KEYS ≡ length (at.yielded ++ x ∷ []) * PIECE_KEYS = omega (arith, length-append at.yielded (x ∷ [])) in
    let is : IsPieceFrom keys seed parts (number * PIECE_KEYS) c.in_ok-piece.piece =
    IfOk-at_ok (IsPieceFrom keys seed parts (number * PIECE_KEYS)) c.in_ok-piece.was left.1 in
    let more : AreCutTo keys seed parts (number * PIECE_KEYS + PIECE_KEYS) (at.list.items ++ c.in_ok-piece.piece.partitions ∷ [])
    (added_marks at.mark c.in_ok-piece.piece.mark) =
    cut_more keys seed parts (number * PIECE_KEYS) at.list.items at.mark c.in_ok-piece.piece left.0 is at.invariant.so_far in
    record {
      left = subst (λ start. ArePieces keys seed parts start (into_iter_items c.next.new.self)) next left.2;
      len = let was = at.invariant.len in let gone = c.in-Some.ensures.steps.1 in let short = ap length steps in omega arith;
      so_far = subst (λ to. AreCutTo keys seed parts to c.push.new.self.items c.both_marks-mark.result) next
          (subst (λ pieces. AreCutTo keys seed parts (number * PIECE_KEYS + PIECE_KEYS) pieces c.both_marks-mark.result) (sym c.in_ok-push.ensures.items)
          (subst (λ mark. AreCutTo keys seed parts (number * PIECE_KEYS + PIECE_KEYS) (at.list.items ++ c.in_ok-piece.piece.partitions ∷ []) mark)
          (sym c.both_marks-mark.ensures) more));
    }

pub returns-clause-pieces : goal.returns-clause-pieces
returns-clause-pieces c =
    let start = length c.loop-slot.yielded * PIECE_KEYS in
    let past : length c.args.keys.now ≤ start =
    pieces_done c.args.keys.now c.args.seed c.args.parts start (into_iter_items c.loop-slot.slot-iterator)
    (omega (arith, c.loop-slot.invariant.len, c.in-None.ensures.steps.0)) c.loop-slot.invariant.left in
    c.new-pieces.ensures
    ∙ ap (all_gathered c.loop-slot.list.items) c.from.ensures
    ∙ cut_all c.args.keys.now c.args.seed c.args.parts start c.loop-slot.list.items c.loop-slot.mark past c.loop-slot.invariant.so_far

pub returns-clause-mark : goal.returns-clause-mark
returns-clause-mark c =
    let start = length c.loop-slot.yielded * PIECE_KEYS in
    let past : length c.args.keys.now ≤ start =
    pieces_done c.args.keys.now c.args.seed c.args.parts start (into_iter_items c.loop-slot.slot-iterator)
    (omega (arith, c.loop-slot.invariant.len, c.in-None.ensures.steps.0)) c.loop-slot.invariant.left in
    marked_to c.args.keys.now c.args.seed c.args.parts start c.loop-slot.list.items c.loop-slot.mark past c.loop-slot.invariant.so_far
