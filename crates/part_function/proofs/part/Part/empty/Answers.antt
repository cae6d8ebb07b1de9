use Rattle.std.proofs.Common.{refl}
use Rattle.elias_fano.specs.Spelling.{rises}
use Rattle.part_function.proofs.part.Part.empty.Goals as goal

pub build-requires-clause-rising : goal.build-requires-clause-rising
unfolding rises
build-requires-clause-rising c = refl
