use Rattle.std.proofs.Common.{◌≡◌, take}
use Rattle.pilot_codecs.specs.Spelling.{greatest}
use Rattle.pilot_codecs.proofs.compact.greatest_of.Given as goal

abbrev pub invariant-loop-value : goal.invariant-loop-value
invariant-loop-value l = l.most ≡ greatest (take l.value-index l.values)
