-- What crates above use: bytes are read exactly where they are an index, and how long a text is.
pub use Rattle.index_text.proofs.Steps.{bind_ok, ok_is, done, all_counted}
pub use Rattle.index_text.proofs.ListLaws.{PartsTaken, partitions_take, part_text-some, IsValidPart-none, no_part}
pub use Rattle.index_text.proofs.DigestLaws.{IsSealed, sealed_takes}
pub use Rattle.index_text.proofs.LengthLaws.{length-key_counts, length-index_text, index_text-few}
pub use Rattle.index_text.proofs.IndexLaws.{index_takes, index_again, index_only, index_once, IsIndex-index_text}
