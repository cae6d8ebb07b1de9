use Rattle.bit_vector.proofs.SampleLemmas.{lowest_one}
use Rattle.bit_vector.proofs.samples.lowest_in.Goals as goal

pub returns-clause-place : goal.returns-clause-place
returns-clause-place c = (lowest_one c.args.word c.requires c.ranges.word.fits).1
