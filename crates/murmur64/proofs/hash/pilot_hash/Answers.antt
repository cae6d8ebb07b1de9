use Rattle.std.proofs.Common.{ap, ◌∙◌}
use Rattle.pthash.specs.Hash.{last_mixing}
use Rattle.murmur64.proofs.Steps.{pilot_hash-one_block}
use Rattle.murmur64.proofs.hash.pilot_hash.Goals as goal

pub returns : goal.returns
returns c =
    c.finish.ensures ∙ ap last_mixing c.mix_block.ensures ∙ pilot_hash-one_block c.args.pilot c.args.seed c.ranges.pilot.fits
