use Rattle.std.proofs.Common.{◌≡◌, ◌++◌}
use Rattle.elias_fano.specs.Reading.{words_in}
use Rattle.elias_fano.proofs.reading.push_words.Given as goal

abbrev pub invariant-loop-i : goal.invariant-loop-i
invariant-loop-i l = l.words.items ≡ l.fn.words.items ++ words_in l.i l.bytes
