use Rattle.hem_build.proofs.PieceLaws.{hashed_piece}
use Rattle.hem_build.proofs.cutting.hash_piece.Goals as goal

pub returns : goal.returns
returns c =
    hashed_piece c.args.keys.now c.args.seed c.args.start c.args.records.now c.hash_share.new.share c.requires.count c.hash_share.ensures
