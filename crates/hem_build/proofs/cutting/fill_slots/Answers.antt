use Rattle.std.proofs.Common.{◌≡◌, ◌*◌, length, subst, arith}
use Rattle.std.specs.Prelude.{IfOk}
use Rattle.hem_build.specs.KeyPieces.{IsPieceFrom}
use Rattle.hem_build.specs.declared.cutting.TheConstants.{PIECE_KEYS}
use Rattle.hem_build.proofs.PieceLaws.{pieces_all}
use Rattle.hem_build.proofs.cutting.fill_slots.Goals as goal

pub returns : goal.returns
returns g c =
    let slots = c.for_each_mut.new.s in
    let count : length slots ≡ length c.args.slots.now = c.for_each_mut.auto.s in
    pieces_all c.args.keys.now c.args.seed c.args.parts slots (omega (arith, count, c.requires.all)) (omega (arith, count, c.requires.last))
    (λ i d within.
    let at = (c.for_each_mut.ensures i d (omega (arith, count))).1 in
    subst (λ slot. IfOk slot (IsPieceFrom c.args.keys.now c.args.seed c.args.parts (i * PIECE_KEYS))) at.left at.call)
