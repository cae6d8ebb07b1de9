use Rattle.std.proofs.Common.{length, lit<, arith}
use Rattle.std.proofs.lemmas.List.{length_push}
use Rattle.std.proofs.lemmas.Iterator.Consumers.{YieldsList-turn, YieldsList-end}
use Rattle.std.proofs.lemmas.Iterator.Splits.{YieldsList-from_str_split}
use Rattle.command_words.proofs.Seeds.{pieces_of, one_more_seed, no_seed, few, many}
use Rattle.command_words.proofs.number.read_seeds.Goals as goal

pub returns-in_default : goal.returns-in_default
returns-in_default c =
    let at = YieldsList-turn (YieldsList-from_str_split 44 c.args.text.now (lit< tt) (cc) (cc) (cc)) c.loop-piece.yielded _
    c.loop-piece.yielded_by _ _ c.in-Some.piece c.in-Some.is c.next.ensures.steps in
    no_seed c.args.text.now (length c.loop-piece.yielded) c.in-Some.piece.now c.loop-piece.seeds.items at c.in_default.ensures.value c.loop-piece.invariant

pub loop-piece-preserved : goal.loop-piece-preserved
loop-piece-preserved c =
    let at = YieldsList-turn (YieldsList-from_str_split 44 c.args.text.now (lit< tt) (cc) (cc) (cc)) c.loop-piece.yielded _
    c.loop-piece.yielded_by _ _ c.in-Some.piece c.in-Some.is c.next.ensures.steps in
    let more = one_more_seed (pieces_of c.args.text.now) (length c.loop-piece.yielded) c.in-Some-number.seed
    c.in-Some.piece.now c.loop-piece.seeds.items _ at c.in-Some-number.ensures.value c.loop-piece.invariant in
    rw (length_push c.loop-piece.yielded c.in-Some.piece, c.in_ok-push.ensures.items) more

pub returns-then-len-gt-MAX_SEEDS : goal.returns-then-len-gt-MAX_SEEDS
returns-then-len-gt-MAX_SEEDS c =
    let end = YieldsList-end (YieldsList-from_str_split 44 c.args.text.now (lit< tt) (cc) (cc) (cc)) c.loop-piece.yielded _
    c.loop-piece.yielded_by _ _ c.in-None.is c.next.ensures.steps in
    many c.args.text.now (length c.loop-piece.yielded) c.loop-piece.seeds.items (omega (arith, end.1)) c.loop-piece.invariant (omega (arith, c.len.ensures))

pub returns : goal.returns
returns c =
    let end = YieldsList-end (YieldsList-from_str_split 44 c.args.text.now (lit< tt) (cc) (cc) (cc)) c.loop-piece.yielded _
    c.loop-piece.yielded_by _ _ c.in-None.is c.next.ensures.steps in
    few c.args.text.now (length c.loop-piece.yielded) c.loop-piece.seeds.items (omega (arith, end.1)) c.loop-piece.invariant (omega (arith, c.len.ensures))
