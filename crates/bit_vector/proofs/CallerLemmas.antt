-- What crates above use of bits, words and their packing.
pub use Rattle.bit_vector.proofs.BitLemmas.{length-bits_of, number_of-bits_of, bits_of-number_of, number_of-lt, length-places_from, places-step}
pub use Rattle.bit_vector.proofs.ReadLemmas.{low_mask}
pub use Rattle.bit_vector.proofs.PackLemmas.{packed_none}
pub use Rattle.bit_vector.proofs.ViewLemmas.{packed-bits_of, bits_read}
pub use Rattle.bit_vector.proofs.SampleLemmas.{length-packed, AreWords-packed, words_number-packed}
pub use Rattle.bit_vector.proofs.FieldLemmas.{bits_of-high, length-bits_of_each, fields_packed}
