use Rattle.std.proofs.Common.{take}
use Rattle.bit_vector.specs.Bits.{bits_of_each}
use Rattle.bit_vector.proofs.FieldLemmas.{IsPacking}
use Rattle.bit_vector.proofs.words.push_fields.Given as goal

abbrev pub invariant-loop-value : goal.invariant-loop-value
invariant-loop-value l = IsPacking l.fn.words.items l.words.items l.rest l.used (bits_of_each l.width (take l.value-index l.values))
